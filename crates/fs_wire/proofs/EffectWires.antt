-- Effects.
use Rattle.std.proofs.Common.{ℕ, ◌<◌, ◌≤◌, true, ltb, List, ◌++◌, refl, arith}
use Rattle.std.proofs.lemmas.Bool.{ltb-true, ltb-false, eqb-true}
use Rattle.fs_field.specs.declared.effect.Effect.{Effect}
use Rattle.fs_field.specs.declared.effect.Effect.TheVariants as effect_
use Rattle.fs_wire.specs.Spelling.{effect}
use Rattle.fs_wire.specs.Ranges.{FitsEffect}
use Rattle.fs_wire.specs.Tags.{one_tag}
use Rattle.fs_wire.specs.Readers.{either_at, tag_at}
use Rattle.fs_wire.specs.Reading.{set_child_to_remove_node_of, add_handle_to_set_info_of, effect_of, effect_at}
use Rattle.fs_wire.proofs.Readers.{IsOne, IsReader, then-reader, either-reader}
use Rattle.fs_wire.proofs.Says.{Says, says-then, says-map, says-one}
use Rattle.fs_wire.proofs.Wires.{Spelled, IsWire, tag-reader, arm, above, plain-pair, plain-option}
use Rattle.fs_wire.proofs.NumberWires.{four-wire, eight-wire}
use Rattle.fs_wire.proofs.SmallWires.{kind-wire, modes-wire, session-wire}
use Rattle.fs_wire.proofs.NameWires.{identifier-wire, name-wire}

-- the effects behind each span of tags
set_child_to_remove_node-reads : (tag : ℕ) (t : List ℕ) → IsOne (λ b. ltb b 7) tag t → tag < 4 → IsReader (set_child_to_remove_node_of tag) (λ w u. Spelled FitsEffect effect w (t ++ u))
unfolding effect
set_child_to_remove_node-reads tag t q lt =
    either-reader _ _ _ _ (λ e. arm _ 0 q (eqb-true tag 0 e) (plain-pair identifier-wire (plain-pair name-wire (plain-option identifier-wire))) (λ v f. (f.0, f.1.0, f.1.1)) (λ v. refl)) (λ e0. let a0 = above 0 tag (omega arith) e0 in
    either-reader _ _ _ _ (λ e. arm _ 1 q (eqb-true tag 1 e) (plain-pair identifier-wire (plain-pair identifier-wire name-wire)) (λ v f. (f.0, f.1.0, f.1.1)) (λ v. refl)) (λ e1. let a1 = above 1 tag a0 e1 in
    either-reader _ _ _ _ (λ e. arm _ 2 q (eqb-true tag 2 e) (plain-pair identifier-wire (plain-pair kind-wire (plain-pair identifier-wire name-wire))) (λ v f. (f.0, f.1.1.0, f.1.1.1)) (λ v. refl)) (λ e2. let a2 = above 2 tag a1 e2 in
    arm _ 3 q (omega (arith, a2, lt)) identifier-wire (λ v f. f) (λ v. refl))))

add_handle_to_set_info-reads : (tag : ℕ) (t : List ℕ) → IsOne (λ b. ltb b 7) tag t → 4 ≤ tag → IsReader (add_handle_to_set_info_of tag) (λ w u. Spelled FitsEffect effect w (t ++ u))
unfolding effect
add_handle_to_set_info-reads tag t q le =
    either-reader _ _ _ _ (λ e. arm _ 4 q (eqb-true tag 4 e) (plain-pair identifier-wire (plain-pair session-wire (plain-pair four-wire modes-wire))) (λ v f. (f.0, f.1.0, f.1.1.0, f.1.1.1)) (λ v. refl)) (λ e4. let a4 = above 4 tag le e4 in
    either-reader _ _ _ _ (λ e. arm _ 5 q (eqb-true tag 5 e) (plain-pair identifier-wire (plain-pair session-wire four-wire)) (λ v f. (f.0, f.1.0, f.1.1)) (λ v. refl)) (λ e5. let a5 = above 5 tag a4 e5 in
    arm _ 6 q (omega (arith, a5, ltb-true tag 7 q.passes)) (plain-pair identifier-wire (plain-pair eight-wire eight-wire)) (λ v f. (f.0, f.1.0, f.1.1)) (λ v. refl)))

effect-reads : IsReader effect_at (Spelled FitsEffect effect)
unfolding effect_at
effect-reads = then-reader (tag_at 7) effect_of (IsOne (λ b. ltb b 7)) (Spelled FitsEffect effect) (tag-reader 7 (omega arith)) (λ tag t q.
    either-reader _ _ _ _ (λ few. set_child_to_remove_node-reads tag t q (ltb-true tag 4 few)) (λ more. add_handle_to_set_info-reads tag t q (ltb-false tag 4 more)))

effect-says : (v : Effect) → FitsEffect v → Says effect_at v (effect v) (one_tag (effect v))
unfolding effect_at effect tag_at either_at
effect-says (effect_.SetChild x n o) fits = says-then effect_of (says-one true (λ b. ltb b 7) 0 refl) (says-map (λ p. effect_.SetChild p.0 p.1.0 p.1.1) ((plain-pair identifier-wire (plain-pair name-wire (plain-option identifier-wire))).says (x, (n, o)) (fits.0, (fits.1, fits.2))))
effect-says (effect_.SetParent x d n) fits = says-then effect_of (says-one true (λ b. ltb b 7) 1 refl) (says-map (λ p. effect_.SetParent p.0 p.1.0 p.1.1) ((plain-pair identifier-wire (plain-pair identifier-wire name-wire)).says (x, (d, n)) (fits.0, (fits.1, fits.2))))
effect-says (effect_.NewNode x k d n) fits = says-then effect_of (says-one true (λ b. ltb b 7) 2 refl) (says-map (λ p. effect_.NewNode p.0 p.1.0 p.1.1.0 p.1.1.1) ((plain-pair identifier-wire (plain-pair kind-wire (plain-pair identifier-wire name-wire))).says (x, (k, (d, n))) (fits.0, (tt, (fits.1, fits.2)))))
effect-says (effect_.RemoveNode x) fits = says-then effect_of (says-one true (λ b. ltb b 7) 3 refl) (says-map (λ x. effect_.RemoveNode x) (identifier-wire.says x fits))
effect-says (effect_.AddHandle x s h m) fits = says-then effect_of (says-one true (λ b. ltb b 7) 4 refl) (says-map (λ p. effect_.AddHandle p.0 p.1.0 p.1.1.0 p.1.1.1) ((plain-pair identifier-wire (plain-pair session-wire (plain-pair four-wire modes-wire))).says (x, (s, (h, m))) (fits.0, (fits.1, (fits.2, fits.3)))))
effect-says (effect_.RemoveHandle x s h) fits = says-then effect_of (says-one true (λ b. ltb b 7) 5 refl) (says-map (λ p. effect_.RemoveHandle p.0 p.1.0 p.1.1) ((plain-pair identifier-wire (plain-pair session-wire four-wire)).says (x, (s, h)) (fits.0, (fits.1, fits.2))))
effect-says (effect_.SetInfo x a b) fits = says-then effect_of (says-one true (λ b. ltb b 7) 6 refl) (says-map (λ p. effect_.SetInfo p.0 p.1.0 p.1.1) ((plain-pair identifier-wire (plain-pair eight-wire eight-wire)).says (x, (a, b)) (fits.0, (fits.1, fits.2))))

pub effect-wire : IsWire effect_at FitsEffect effect (λ v. one_tag (effect v))
effect-wire = record { reads = effect-reads; says = effect-says }
