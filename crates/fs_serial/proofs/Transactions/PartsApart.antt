-- The parts of an operation: the first is that of its home, and no two are on one file. Their files and leases are the same in each mode.
use Rattle.std.proofs.Common.{◌≡◌, ◌==◌, ℕ, zero, suc, true, false, List, [], ◌∷◌, ◌++◌, refl, sym, ap, ap₂, ◌∙◌, subst, cond, inl, inr}
use Rattle.std.specs.Prelude.{map, Some, slice_get}
use Rattle.std.specs.List.{list_any}
use Rattle.std.proofs.lemmas.Bool.{eqb-false}
use Rattle.fs_ident.specs.Ident.{same}
use Rattle.fs_ident.proofs.Standing.{In-got, none_any}
use Rattle.fs_field.specs.declared.used.Part.{Part}
use Rattle.fs_field.specs.declared.used.Use.{Use}
use Rattle.fs_model.specs.Asking.{home_of}
use Rattle.fs_model.specs.declared.op.Op.{Op}
use Rattle.fs_msg.specs.declared.lead.Lead.{Lead as ToLead}
use Rattle.fs_server.specs.Begins.{parts_in}
use Rattle.fs_server.specs.Leads.{uses_of}
use Rattle.fs_txn.specs.Parts.{led_files, part_at, source_of, uses_on, with_file}
use Rattle.fs_txn.specs.declared.mode.Mode2.{Mode2}
use Rattle.fs_txn.specs.declared.mode.Mode2.TheVariants.{Plain}
use Rattle.fs_serial.proofs.Lists.ByPlace.{either_at, front_at, map_at, of_map}
use Rattle.fs_serial.proofs.Lists.Journals.{same_symm}

-- ## Files

abbrev AreApart : List (List ℕ) → Type 0
AreApart fs = (i j : ℕ) (a b : List ℕ) → (i == j) ≡ false → slice_get fs i ≡ Some a → slice_get fs j ≡ Some b → same a b ≡ false

one_apart : (f : List ℕ) → AreApart (f ∷ [])
one_apart f zero zero a b off p q = absurd (cc off)
one_apart f zero (suc j) a b off p q = absurd (cc q)
one_apart f (suc i) j a b off p q = absurd (cc p)

more_apart : (f : List ℕ) (fs : List (List ℕ)) → list_any (λ g. same g f) fs ≡ false → AreApart fs → AreApart (fs ++ f ∷ [])
more_apart f fs none h i j a b off p q = elim (either_at fs f a i p) as (λ _. same a b ≡ false) [
  | inl x ↦ elim (either_at fs f b j q) as (λ _. same a b ≡ false) [
    | inl y ↦ h i j a b off x y
    | inr y ↦ subst (λ z. same a z ≡ false) (sym y.1) (none_any (λ g. same g f) fs none a (In-got fs i a x))
  ]
  | inr x ↦ elim (either_at fs f b j q) as (λ _. same a b ≡ false) [
    | inl y ↦ subst (λ z. same z b ≡ false) (sym x.1) (same_symm f b ∙ none_any (λ g. same g f) fs none b (In-got fs j b y))
    | inr y ↦ absurd (eqb-false i j off (x.0 ∙ sym y.0))
  ]
]

with_apart : (f : List ℕ) (fs : List (List ℕ)) → AreApart fs → AreApart (with_file f fs)
with_apart f fs h =
    elim (list_any (λ g. same g f) fs) as
    (λ b. list_any (λ g. same g f) fs ≡ b → AreApart (cond b fs (fs ++ f ∷ []))) [ true ↦ λ e. h | false ↦ λ e. more_apart f fs e h ] refl

led_apart : (o : Op) (file : List ℕ) → AreApart (led_files o file)
led_apart o file =
    with_apart file (with_file (source_of o) (home_of o ∷ [])) (with_apart (source_of o) (home_of o ∷ []) (one_apart (home_of o)))

with_first : (f : List ℕ) (fs : List (List ℕ)) (h : List ℕ) → slice_get fs 0 ≡ Some h → slice_get (with_file f fs) 0 ≡ Some h
with_first f fs h e =
    elim (list_any (λ g. same g f) fs) as
    (λ b. slice_get (cond b fs (fs ++ f ∷ [])) 0 ≡ Some h) [ true ↦ e | false ↦ front_at fs (f ∷ []) 0 h e ]

-- ## Parts

pub first_part : (mode : Mode2) (m : ToLead) → slice_get (parts_in mode m) 0 ≡ Some (part_at mode m.op m.file m.uses (home_of m.op))
first_part mode m = map_at (part_at mode m.op m.file m.uses) (led_files m.op m.file) 0 (home_of m.op)
    (with_first m.file (with_file (source_of m.op) (home_of m.op ∷ [])) (home_of m.op)
    (with_first (source_of m.op) (home_of m.op ∷ []) (home_of m.op) refl))

pub parts_apart : (mode : Mode2) (m : ToLead) (i j : ℕ) (p q : Part) → (i == j) ≡ false → slice_get (parts_in mode m) i ≡ Some p
    → slice_get (parts_in mode m) j ≡ Some q → same p.file q.file ≡ false
parts_apart mode m i j p q off a b =
    let x = of_map (part_at mode m.op m.file m.uses) (led_files m.op m.file) i p a in
    let y = of_map (part_at mode m.op m.file m.uses) (led_files m.op m.file) j q b in
    ap₂ (λ (v w : Part). same v.file w.file) x.1.1 y.1.1 ∙ led_apart m.op m.file i j x.0 y.0 off x.1.0 y.1.0

-- ## In each mode

pub part_any : (mode : Mode2) (o : Op) (file : List ℕ) (uses : List Use) (at : List ℕ)
    → (part_at mode o file uses at).uses ≡ (part_at Plain o file uses at).uses
part_any mode o file uses at = refl

uses_alike : (mode : Mode2) (o : Op) (file : List ℕ) (uses : List Use) (fs : List (List ℕ))
    → uses_of (map (part_at mode o file uses) fs) ≡ uses_of (map (part_at Plain o file uses) fs)
uses_alike mode o file uses [] = refl
uses_alike mode o file uses (f ∷ fs) = ap (λ us. uses_on f uses ++ us) (uses_alike mode o file uses fs)

pub uses_any : (mode : Mode2) (m : ToLead) → uses_of (parts_in mode m) ≡ uses_of (parts_in Plain m)
uses_any mode m = uses_alike mode m.op m.file m.uses (led_files m.op m.file)
