-- Lists of numbers by field.
use Rattle.std.proofs.Common.{◌≡◌, ◌==◌, ◌&&◌, length, ℕ, ◌∷◌, Bool, true, false, List, [], refl, ap, cond, subst, sym, ◌∙◌, arith}
use Rattle.std.specs.Prelude.{Option, Some, None, is_some}
use Rattle.std.specs.Ordering.{is_eq, nat_cmp, ordering_then}
use Rattle.std.specs.declared.cmp.Ordering.{Ordering}
use Rattle.std.specs.declared.cmp.Ordering.TheVariants.{Less, Equal, Greater}
use Rattle.fs_modes.specs.declared.modes.Mode.{Mode}
use Rattle.fs_modes.specs.declared.modes.Mode.TheVariants.{AccR, AccW, AccD, DenyR, DenyW, DenyD}
use Rattle.fs_modes.specs.contracts.modes.ModeOrd.TheImpl as modes
use Rattle.std.specs.BTreeMap.{is_at}
use Rattle.std.specs.Map.{lookup}
use Rattle.std.specs.Cmp.Lexicographic.{texts_ties, slice_cmp}
use Rattle.std.proofs.lemmas.Bool.Decides.{nat_tests}
use Rattle.fs_ident.proofs.Booleans.{both}
use Rattle.fs_ident.proofs.Same.{same_is, after_zero}
use Rattle.fs_ident.specs.Ident.{same}
use Rattle.fs_ident.specs.declared.actor.LeaseNo.{LeaseNo}
use Rattle.fs_field.specs.declared.field.Field.{Field}
use Rattle.fs_field.specs.declared.field.Field.TheVariants.{Life, Child, Names, Info, Own, SelfW, Other}
use Rattle.fs_field.specs.Field.{same_field, same_mode}
use Rattle.fs_view.specs.Index.{field_cmp, listed}

-- ## When two fields are one

then_eq : (x y : Ordering) → is_eq (ordering_then x y) ≡ (is_eq x && is_eq y)
then_eq Less y = refl
then_eq Equal y = refl
then_eq Greater y = refl

modes_tie : (m n : Mode) → is_eq (modes.ghosts.cmp m n) ≡ same_mode m n
modes_tie AccR AccR = refl
modes_tie AccW AccW = refl
modes_tie AccD AccD = refl
modes_tie DenyR DenyR = refl
modes_tie DenyW DenyW = refl
modes_tie DenyD DenyD = refl
modes_tie m n = refl

same_mode_is : (m n : Mode) → same_mode m n ≡ true → m ≡ n
same_mode_is AccR AccR h = refl
same_mode_is AccW AccW h = refl
same_mode_is AccD AccD h = refl
same_mode_is DenyR DenyR h = refl
same_mode_is DenyW DenyW h = refl
same_mode_is DenyD DenyD h = refl
same_mode_is m n h = absurd (cc h)

both_tie : (a b : List ℕ) (x : Ordering) (t : Bool) → is_eq x ≡ t → is_eq (ordering_then (slice_cmp nat_cmp a b) x) ≡ (same a b && t)
both_tie a b x t e = then_eq (slice_cmp nat_cmp a b) x ∙ ap (λ s. s && is_eq x) (sym (texts_ties a b)) ∙ ap (λ s. same a b && s) e

tie : (k q : Field) → is_eq (field_cmp k q) ≡ same_field k q
tie (Life a) (Life b) = sym (texts_ties a b)
tie (Child a m) (Child b n) = both_tie a b (slice_cmp nat_cmp m n) (same m n) (sym (texts_ties m n))
tie (Names a) (Names b) = sym (texts_ties a b)
tie (Info a) (Info b) = sym (texts_ties a b)
tie (Own a) (Own b) = sym (texts_ties a b)
tie (SelfW a m) (SelfW b n) = both_tie a b (modes.ghosts.cmp m n) (same_mode m n) (modes_tie m n)
tie (Other a m) (Other b n) = both_tie a b (modes.ghosts.cmp m n) (same_mode m n) (modes_tie m n)
tie f g = refl

pub same_field_is : (f g : Field) → same_field f g ≡ true → f ≡ g
same_field_is (Life a) (Life b) h = ap (λ x. Life x) (same_is a b h)
same_field_is (Child a m) (Child b n) h = let q = both (same a b) (same m n) h in ap (λ x. Child x m) (same_is a b q.0) ∙ ap (λ x. Child b x) (same_is m n q.1)
same_field_is (Names a) (Names b) h = ap (λ x. Names x) (same_is a b h)
same_field_is (Info a) (Info b) h = ap (λ x. Info x) (same_is a b h)
same_field_is (Own a) (Own b) h = ap (λ x. Own x) (same_is a b h)
same_field_is (SelfW a m) (SelfW b n) h = let q = both (same a b) (same_mode m n) h in ap (λ x. SelfW x m) (same_is a b q.0) ∙ ap (λ x. SelfW b x) (same_mode_is m n q.1)
same_field_is (Other a m) (Other b n) h = let q = both (same a b) (same_mode m n) h in ap (λ x. Other x m) (same_is a b q.0) ∙ ap (λ x. Other b x) (same_mode_is m n q.1)
same_field_is f g h = absurd (cc h)

-- ## What stands at a field

abbrev Changed : Type 0
Changed = List LeaseNo → List LeaseNo

abbrev Entries : Type 0
Entries = List (Field × List LeaseNo)

abbrev found : Field → Entries → Option (List LeaseNo)
found f es = lookup (is_at (field_cmp f)) es

abbrev numbers : Entries → Field → List LeaseNo
numbers es f = listed (found f es)

-- at this field it stands so, and at others as before
abbrev IsPut : Entries → Entries → Field → Option (List LeaseNo) → Type 0
IsPut es fs k w = (q : Field) → found q fs ≡ cond (is_at (field_cmp k) q) w (found q es)

abbrev Changes : Changed → Field → Entries → Entries → Type 0
Changes c k es fs = (f : Field) → numbers fs f ≡ cond (same_field k f) (c (numbers es f)) (numbers es f)

-- what is put at a field, or taken away
pub put_at : (c : Changed) (es fs : Entries) (k : Field) (w : Option (List LeaseNo)) → IsPut es fs k w → listed w ≡ c (numbers es k) → Changes c k es fs
put_at c es fs k w u e f =
    ap listed (u f)
    ∙ ap (λ b. listed (cond b w (found f es))) (tie k f)
    ∙ elim (same_field k f) as (λ b. same_field k f ≡ b → listed (cond b w (found f es)) ≡ cond b (c (numbers es f)) (numbers es f)) [
      | true ↦ λ t. e ∙ ap (λ x. c (numbers es x)) (same_field_is k f t)
      | false ↦ λ t. refl
    ] refl

-- where nothing is on the field
pub absent_at : (c : Changed) (es : Entries) (k : Field) → found k es ≡ None → c [] ≡ [] → Changes c k es es
absent_at c es k h e f = elim (same_field k f) as (λ b. same_field k f ≡ b → numbers es f ≡ cond b (c (numbers es f)) (numbers es f)) [
  | true ↦ λ t. let none = sym (ap (numbers es) (same_field_is k f t)) ∙ ap listed h in none ∙ sym (ap c none ∙ e)
  | false ↦ λ t. refl
] refl

-- where nothing is left the field can go
pub emptied_at : (c : Changed) (es fs gs : Entries) (k : Field) → Changes c k es fs → numbers fs k ≡ [] → IsPut fs gs k None → Changes c k es gs
emptied_at c es fs gs k h z u f =
    put_at (λ ns. []) fs gs k None u refl f
    ∙ elim (same_field k f) as (λ b. same_field k f ≡ b → cond b [] (numbers fs f) ≡ numbers fs f) [
      | true ↦ λ t. sym z ∙ ap (numbers fs) (same_field_is k f t)
      | false ↦ λ t. refl
    ] refl
    ∙ h f

none_long : (ns : List LeaseNo) → (length ns == 0) ≡ true → ns ≡ []
none_long [] h = refl
none_long (n ∷ ns) h = let wrong : true ≡ false = sym h ∙ after_zero (length ns) in absurd (cc)

-- what is written through what was lent
pub lent_at : (c : Changed) (es fs : Entries) (k : Field) (v w : List LeaseNo) → found k es ≡ Some v → IsPut es fs k (Some w) → w ≡ c v → Changes c k es fs
lent_at c es fs k v w h u e = put_at c es fs k (Some w) u (e ∙ ap c (sym (ap listed h)))

pub lent_none : (fs : Entries) (k : Field) (w : List LeaseNo) → found k fs ≡ Some w → (length w == 0) ≡ true → numbers fs k ≡ []
lent_none fs k w h e = ap listed h ∙ none_long w e

pub new_at : (c : Changed) (es there fs : Entries) (k l : Field) (w : List LeaseNo) → there ≡ es → found k es ≡ None → l ≡ k → w ≡ c [] → IsPut there fs l (Some w) → Changes c k es fs
new_at c es there fs k l w same h e f s = put_at c es fs k (Some w) (subst (λ x. IsPut x fs k (Some w)) same (subst (λ x. IsPut there fs x (Some w)) e s)) (f ∙ ap c (sym (ap listed h)))

pub none_entered : (es : Entries) → es ≡ [] → (f : Field) → numbers es f ≡ []
none_entered es h f = ap (λ xs. numbers xs f) h

-- the field is there, where something was lent
pub is_there : (es : Entries) (k : Field) (v : List LeaseNo) → found k es ≡ Some v → is_some (found k es) ≡ true
is_there es k v h = ap is_some h
