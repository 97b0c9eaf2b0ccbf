-- Operations.
use Rattle.std.proofs.Common.{ℕ, ◌<◌, ◌≤◌, true, ltb, List, ◌++◌, refl, arith}
use Rattle.std.proofs.lemmas.Bool.{ltb-true, ltb-false, eqb-true}
use Rattle.fs_model.specs.declared.op.Op.{Op}
use Rattle.fs_model.specs.declared.op.Op.TheVariants as op_
use Rattle.fs_wire.specs.Spelling.{op}
use Rattle.fs_wire.specs.Ranges.{FitsOp}
use Rattle.fs_wire.specs.Tags.{one_tag}
use Rattle.fs_wire.specs.Readers.{either_at, tag_at}
use Rattle.fs_wire.specs.Reading.{lookup_to_info_of, create_to_set_of, delete_to_reap_of, op_of, op_at}
use Rattle.fs_wire.proofs.Readers.{IsOne, IsReader, then-reader, either-reader}
use Rattle.fs_wire.proofs.Says.{Says, says-then, says-map, says-one}
use Rattle.fs_wire.proofs.Wires.{Spelled, IsWire, tag-reader, arm, above, plain-pair, plain-option}
use Rattle.fs_wire.proofs.NumberWires.{four-wire, eight-wire}
use Rattle.fs_wire.proofs.SmallWires.{kind-wire, modes-wire, session-wire}
use Rattle.fs_wire.proofs.NameWires.{identifier-wire, name-wire}

-- the operations behind each span of tags
lookup_to_info-reads : (tag : ℕ) (t : List ℕ) → IsOne (λ b. ltb b 11) tag t → tag < 4 → IsReader (lookup_to_info_of tag) (λ w u. Spelled FitsOp op w (t ++ u))
unfolding op
lookup_to_info-reads tag t q lt =
    either-reader _ _ _ _ (λ e. arm _ 0 q (eqb-true tag 0 e) (plain-pair identifier-wire name-wire) (λ v f. f) (λ v. refl)) (λ e0. let a0 = above 0 tag (omega arith) e0 in
    either-reader _ _ _ _ (λ e. arm _ 1 q (eqb-true tag 1 e) identifier-wire (λ v f. f) (λ v. refl)) (λ e1. let a1 = above 1 tag a0 e1 in
    either-reader _ _ _ _ (λ e. arm _ 2 q (eqb-true tag 2 e) identifier-wire (λ v f. f) (λ v. refl)) (λ e2. let a2 = above 2 tag a1 e2 in
    arm _ 3 q (omega (arith, a2, lt)) identifier-wire (λ v f. f) (λ v. refl))))

create_to_set-reads : (tag : ℕ) (t : List ℕ) → IsOne (λ b. ltb b 11) tag t → 4 ≤ tag → tag < 8 → IsReader (create_to_set_of tag) (λ w u. Spelled FitsOp op w (t ++ u))
unfolding op
create_to_set-reads tag t q le lt =
    either-reader _ _ _ _ (λ e. arm _ 4 q (eqb-true tag 4 e) (plain-pair identifier-wire (plain-pair name-wire (plain-pair kind-wire (plain-option identifier-wire)))) (λ v f. (f.0, f.1.0, f.1.1.1)) (λ v. refl)) (λ e4. let a4 = above 4 tag le e4 in
    either-reader _ _ _ _ (λ e. arm _ 5 q (eqb-true tag 5 e) (plain-pair identifier-wire (plain-pair four-wire modes-wire)) (λ v f. (f.0, f.1.0, f.1.1)) (λ v. refl)) (λ e5. let a5 = above 5 tag a4 e5 in
    either-reader _ _ _ _ (λ e. arm _ 6 q (eqb-true tag 6 e) (plain-pair identifier-wire four-wire) (λ v f. f) (λ v. refl)) (λ e6. let a6 = above 6 tag a5 e6 in
    arm _ 7 q (omega (arith, a6, lt)) (plain-pair identifier-wire (plain-pair four-wire (plain-pair eight-wire eight-wire))) (λ v f. (f.0, f.1.0, f.1.1.0, f.1.1.1)) (λ v. refl))))

delete_to_reap-reads : (tag : ℕ) (t : List ℕ) → IsOne (λ b. ltb b 11) tag t → 8 ≤ tag → IsReader (delete_to_reap_of tag) (λ w u. Spelled FitsOp op w (t ++ u))
unfolding op
delete_to_reap-reads tag t q le =
    either-reader _ _ _ _ (λ e. arm _ 8 q (eqb-true tag 8 e) (plain-pair identifier-wire name-wire) (λ v f. f) (λ v. refl)) (λ e8. let a8 = above 8 tag le e8 in
    either-reader _ _ _ _ (λ e. arm _ 9 q (eqb-true tag 9 e) (plain-pair identifier-wire (plain-pair name-wire (plain-pair identifier-wire name-wire))) (λ v f. (f.0, f.1.0, f.1.1.0, f.1.1.1)) (λ v. refl)) (λ e9. let a9 = above 9 tag a8 e9 in
    arm _ 10 q (omega (arith, a9, ltb-true tag 11 q.passes)) (plain-pair identifier-wire session-wire) (λ v f. f) (λ v. refl)))

op-reads : IsReader op_at (Spelled FitsOp op)
unfolding op_at
op-reads = then-reader (tag_at 11) op_of (IsOne (λ b. ltb b 11)) (Spelled FitsOp op) (tag-reader 11 (omega arith)) (λ tag t q.
    either-reader _ _ _ _ (λ few. lookup_to_info-reads tag t q (ltb-true tag 4 few)) (λ more.
    either-reader _ _ _ _ (λ some. create_to_set-reads tag t q (ltb-false tag 4 more) (ltb-true tag 8 some)) (λ most.
    delete_to_reap-reads tag t q (ltb-false tag 8 most))))

op-says : (v : Op) → FitsOp v → Says op_at v (op v) (one_tag (op v))
unfolding op_at op tag_at either_at
op-says (op_.Lookup x n) fits = says-then op_of (says-one true (λ b. ltb b 11) 0 refl) (says-map (λ p. op_.Lookup p.0 p.1) ((plain-pair identifier-wire name-wire).says (x, n) fits))
op-says (op_.List x) fits = says-then op_of (says-one true (λ b. ltb b 11) 1 refl) (says-map (λ x. op_.List x) (identifier-wire.says x fits))
op-says (op_.Kind x) fits = says-then op_of (says-one true (λ b. ltb b 11) 2 refl) (says-map (λ x. op_.Kind x) (identifier-wire.says x fits))
op-says (op_.Info x) fits = says-then op_of (says-one true (λ b. ltb b 11) 3 refl) (says-map (λ x. op_.Info x) (identifier-wire.says x fits))
op-says (op_.Create x n k i) fits = says-then op_of (says-one true (λ b. ltb b 11) 4 refl) (says-map (λ p. op_.Create p.0 p.1.0 p.1.1.0 p.1.1.1) ((plain-pair identifier-wire (plain-pair name-wire (plain-pair kind-wire (plain-option identifier-wire)))).says (x, (n, (k, i))) (fits.0, (fits.1, (tt, fits.2)))))
op-says (op_.OpenFile x h m) fits = says-then op_of (says-one true (λ b. ltb b 11) 5 refl) (says-map (λ p. op_.OpenFile p.0 p.1.0 p.1.1) ((plain-pair identifier-wire (plain-pair four-wire modes-wire)).says (x, (h, m)) (fits.0, (fits.1, fits.2))))
op-says (op_.Close x h) fits = says-then op_of (says-one true (λ b. ltb b 11) 6 refl) (says-map (λ p. op_.Close p.0 p.1) ((plain-pair identifier-wire four-wire).says (x, h) fits))
op-says (op_.Set x h a b) fits = says-then op_of (says-one true (λ b. ltb b 11) 7 refl) (says-map (λ p. op_.Set p.0 p.1.0 p.1.1.0 p.1.1.1) ((plain-pair identifier-wire (plain-pair four-wire (plain-pair eight-wire eight-wire))).says (x, (h, (a, b))) (fits.0, (fits.1, (fits.2, fits.3)))))
op-says (op_.Delete x n) fits = says-then op_of (says-one true (λ b. ltb b 11) 8 refl) (says-map (λ p. op_.Delete p.0 p.1) ((plain-pair identifier-wire name-wire).says (x, n) fits))
op-says (op_.Rename x n y m) fits = says-then op_of (says-one true (λ b. ltb b 11) 9 refl) (says-map (λ p. op_.Rename p.0 p.1.0 p.1.1.0 p.1.1.1) ((plain-pair identifier-wire (plain-pair name-wire (plain-pair identifier-wire name-wire))).says (x, (n, (y, m))) (fits.0, (fits.1, (fits.2, fits.3)))))
op-says (op_.Reap x s) fits = says-then op_of (says-one true (λ b. ltb b 11) 10 refl) (says-map (λ p. op_.Reap p.0 p.1) ((plain-pair identifier-wire session-wire).says (x, s) fits))

pub op-wire : IsWire op_at FitsOp op (λ v. one_tag (op v))
op-wire = record { reads = op-reads; says = op-says }
