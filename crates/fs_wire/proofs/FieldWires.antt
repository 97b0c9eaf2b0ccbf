-- Fields, values and used leases.
use Rattle.std.proofs.Common.{true, ltb, refl, arith}
use Rattle.std.proofs.lemmas.Bool.{ltb-true, eqb-true}
use Rattle.std.proofs.Common.{Option, Some, None}
use Rattle.fs_field.specs.declared.field.Field.{Field}
use Rattle.fs_field.specs.declared.field.Field.TheVariants as field_
use Rattle.fs_field.specs.declared.value.Value.{Value}
use Rattle.fs_field.specs.declared.value.Value.TheVariants as value_
use Rattle.fs_wire.specs.Spelling.{field, value, lease_use}
use Rattle.fs_wire.specs.Ranges.{FitsAlways, FitsOption, FitsField, FitsValue, FitsUse}
use Rattle.fs_wire.specs.Tags.{one_tag, lease_use_tags}
use Rattle.fs_wire.specs.Readers.{either_at, tag_at}
use Rattle.fs_wire.specs.Reading.{field_of, field_at, value_of, value_at, lease_use_at}
use Rattle.fs_wire.proofs.Readers.{IsOne, IsReader, then-reader, either-reader}
use Rattle.fs_wire.proofs.Says.{Says, says-then, says-map, says-always, says-one}
use Rattle.fs_wire.proofs.Wires.{Spelled, IsWire, tag-reader, arm, lone, above, pair-wire, plain-pair, plain-option, remade}
use Rattle.fs_wire.proofs.NumberWires.{four-wire, eight-wire, plain-list}
use Rattle.fs_wire.proofs.SmallWires.{truth-wire, kind-wire, lease_kind-wire, mode-wire, modes-wire, lease-wire}
use Rattle.fs_wire.proofs.NameWires.{identifier-wire, name-wire}

field-reads : IsReader field_at (Spelled FitsField field)
unfolding field_at field
field-reads = then-reader (tag_at 7) field_of (IsOne (λ b. ltb b 7)) (Spelled FitsField field) (tag-reader 7 (omega arith)) (λ tag t q.
    either-reader _ _ _ _ (λ e. arm _ 0 q (eqb-true tag 0 e) identifier-wire (λ v f. f) (λ v. refl)) (λ e0. let a0 = above 0 tag (omega arith) e0 in
    either-reader _ _ _ _ (λ e. arm _ 1 q (eqb-true tag 1 e) (plain-pair identifier-wire name-wire) (λ v f. f) (λ v. refl)) (λ e1. let a1 = above 1 tag a0 e1 in
    either-reader _ _ _ _ (λ e. arm _ 2 q (eqb-true tag 2 e) identifier-wire (λ v f. f) (λ v. refl)) (λ e2. let a2 = above 2 tag a1 e2 in
    either-reader _ _ _ _ (λ e. arm _ 3 q (eqb-true tag 3 e) identifier-wire (λ v f. f) (λ v. refl)) (λ e3. let a3 = above 3 tag a2 e3 in
    either-reader _ _ _ _ (λ e. arm _ 4 q (eqb-true tag 4 e) identifier-wire (λ v f. f) (λ v. refl)) (λ e4. let a4 = above 4 tag a3 e4 in
    either-reader _ _ _ _ (λ e. arm _ 5 q (eqb-true tag 5 e) (plain-pair identifier-wire mode-wire) (λ v f. f.0) (λ v. refl)) (λ e5. let a5 = above 5 tag a4 e5 in
    arm _ 6 q (omega (arith, a5, ltb-true tag 7 q.passes)) (plain-pair identifier-wire mode-wire) (λ v f. f.0) (λ v. refl))))))))

field-says : (v : Field) → FitsField v → Says field_at v (field v) (one_tag (field v))
unfolding field_at field tag_at either_at
field-says (field_.Life x) fits = says-then field_of (says-one true (λ b. ltb b 7) 0 refl) (says-map (λ x. field_.Life x) (identifier-wire.says x fits))
field-says (field_.Child x n) fits = says-then field_of (says-one true (λ b. ltb b 7) 1 refl) (says-map (λ p. field_.Child p.0 p.1) ((plain-pair identifier-wire name-wire).says (x, n) fits))
field-says (field_.Names x) fits = says-then field_of (says-one true (λ b. ltb b 7) 2 refl) (says-map (λ x. field_.Names x) (identifier-wire.says x fits))
field-says (field_.Info x) fits = says-then field_of (says-one true (λ b. ltb b 7) 3 refl) (says-map (λ x. field_.Info x) (identifier-wire.says x fits))
field-says (field_.Own x) fits = says-then field_of (says-one true (λ b. ltb b 7) 4 refl) (says-map (λ x. field_.Own x) (identifier-wire.says x fits))
field-says (field_.SelfW x m) fits = says-then field_of (says-one true (λ b. ltb b 7) 5 refl) (says-map (λ p. field_.SelfW p.0 p.1) ((plain-pair identifier-wire mode-wire).says (x, m) (fits, tt)))
field-says (field_.Other x m) fits = says-then field_of (says-one true (λ b. ltb b 7) 6 refl) (says-map (λ p. field_.Other p.0 p.1) ((plain-pair identifier-wire mode-wire).says (x, m) (fits, tt)))

pub field-wire : IsWire field_at FitsField field (λ v. one_tag (field v))
field-wire = record { reads = field-reads; says = field-says }

-- where everything fits, nothing or something does
pub any-option : {A : Type 0} (o : Option A) → FitsOption FitsAlways o
any-option None = tt
any-option (Some x) = tt

value-reads : IsReader value_at (Spelled FitsValue value)
unfolding value_at value
value-reads = then-reader (tag_at 7) value_of (IsOne (λ b. ltb b 7)) (Spelled FitsValue value) (tag-reader 7 (omega arith)) (λ tag t q.
    either-reader _ _ _ _ (λ e. arm _ 0 q (eqb-true tag 0 e) (plain-option kind-wire) (λ v f. tt) (λ v. refl)) (λ e0. let a0 = above 0 tag (omega arith) e0 in
    either-reader _ _ _ _ (λ e. arm _ 1 q (eqb-true tag 1 e) (plain-option identifier-wire) (λ v f. f) (λ v. refl)) (λ e1. let a1 = above 1 tag a0 e1 in
    either-reader _ _ _ _ (λ e. arm _ 2 q (eqb-true tag 2 e) (plain-list name-wire) (λ v f. f) (λ v. refl)) (λ e2. let a2 = above 2 tag a1 e2 in
    either-reader _ _ _ _ (λ e. arm _ 3 q (eqb-true tag 3 e) (plain-pair eight-wire eight-wire) (λ v f. f) (λ v. refl)) (λ e3. let a3 = above 3 tag a2 e3 in
    either-reader _ _ _ _ (λ e. arm _ 4 q (eqb-true tag 4 e) (plain-list (plain-pair four-wire modes-wire)) (λ v f. f) (λ v. refl)) (λ e4. let a4 = above 4 tag a3 e4 in
    either-reader _ _ _ _ (λ e. lone value_.SelfW 5 q (eqb-true tag 5 e) tt refl) (λ e5. let a5 = above 5 tag a4 e5 in
    arm _ 6 q (omega (arith, a5, ltb-true tag 7 q.passes)) truth-wire (λ v f. tt) (λ v. refl))))))))

value-says : (v : Value) → FitsValue v → Says value_at v (value v) (one_tag (value v))
unfolding value_at value tag_at either_at
value-says (value_.Life k) fits = says-then value_of (says-one true (λ b. ltb b 7) 0 refl) (says-map (λ x. value_.Life x) ((plain-option kind-wire).says k (any-option k)))
value-says (value_.Child x) fits = says-then value_of (says-one true (λ b. ltb b 7) 1 refl) (says-map (λ x. value_.Child x) ((plain-option identifier-wire).says x fits))
value-says (value_.Names ns) fits = says-then value_of (says-one true (λ b. ltb b 7) 2 refl) (says-map (λ x. value_.Names x) ((plain-list name-wire).says ns fits))
value-says (value_.Info a b) fits = says-then value_of (says-one true (λ b. ltb b 7) 3 refl) (says-map (λ p. value_.Info p.0 p.1) ((plain-pair eight-wire eight-wire).says (a, b) fits))
value-says (value_.Own hs) fits = says-then value_of (says-one true (λ b. ltb b 7) 4 refl) (says-map (λ x. value_.Own x) ((plain-list (plain-pair four-wire modes-wire)).says hs fits))
value-says value_.SelfW fits = says-then value_of (says-one true (λ b. ltb b 7) 5 refl) (says-always value_.SelfW)
value-says (value_.Other h) fits = says-then value_of (says-one true (λ b. ltb b 7) 6 refl) (says-map (λ x. value_.Other x) (truth-wire.says h tt))

pub value-wire : IsWire value_at FitsValue value (λ v. one_tag (value v))
value-wire = record { reads = value-reads; says = value-says }

pub lease_use-wire : IsWire lease_use_at FitsUse lease_use lease_use_tags
unfolding lease_use_at lease_use lease_use_tags
lease_use-wire = remade _ (λ u. (u.field, (u.kind, (u.no, u.until)))) FitsUse lease_use lease_use_tags (pair-wire field-wire (pair-wire lease_kind-wire (pair-wire lease-wire eight-wire)))
    (λ v f. record { field = f.0; no = f.1.1.0; until = f.1.1.1 }) (λ w f. (f.field, (tt, (f.no, f.until)))) (λ v. refl) (λ w s. s)
