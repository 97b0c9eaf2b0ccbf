-- A part that is told an effect of a delete or a rename keeps what it has to keep.
use Rattle.std.proofs.Common.{◌≡◌, ◌∙◌, ◌⊎◌, ℕ, true, false, List, [], cond, refl, sym, ap, ap₂, subst, inl, inr}
use Rattle.std.specs.Prelude.{◌||◌, Some, None}
use Rattle.std.specs.FinMap.{get}
use Rattle.fs_ident.specs.Ident.{same}
use Rattle.fs_ident.specs.In.{In}
use Rattle.fs_ident.specs.declared.kind.Kind.{Kind}
use Rattle.fs_ident.specs.declared.kind.Kind.TheVariants.{File}
use Rattle.fs_ident.proofs.Same.{same_is, same_self}
use Rattle.fs_field.specs.After.{changed_file}
use Rattle.fs_field.specs.declared.effect.Effect.{Effect}
use Rattle.fs_field.specs.declared.effect.Effect.TheVariants.{SetChild, SetParent, RemoveNode}
use Rattle.fs_field.specs.declared.used.Part.{Part}
use Rattle.fs_model.specs.Asking.{home_of}
use Rattle.fs_model.specs.Sound.{child_of}
use Rattle.fs_model.specs.declared.op.Op.{Op}
use Rattle.fs_model.specs.declared.op.Op.TheVariants as op
use Rattle.fs_msg.specs.declared.item.Item.{Item}
use Rattle.fs_record.specs.LedEffects.{led_effects, named_file}
use Rattle.fs_record.specs.Records.{RecordMap, nodes_of}
use Rattle.fs_record.proofs.NodeMaps.{node_there}
use Rattle.fs_server.specs.PathSteps.{dir_here}
use Rattle.fs_txn.specs.Deciding.{reply_of}
use Rattle.fs_txn.specs.Parts.{freeze_at, source_of}
use Rattle.fs_txn.specs.declared.mode.Mode2.{Mode2}
use Rattle.fs_txn.specs.declared.mode.Mode2.TheVariants.{Freeze}
use Rattle.fs_serial.specs.Fresh.{made}
use Rattle.fs_serial.specs.KeptFiles.{FreezesFor, IsKeptFor}
use Rattle.fs_serial.specs.Leading.{StaysIn}
use Rattle.fs_serial.proofs.Paths.KeptPlaces.{PlaceLeft}
use Rattle.fs_serial.proofs.Paths.SourceParts.{source_keeps}

-- ## Why it is kept

abbrev pub StaysInside : Op → Type 0
StaysInside (op.Rename sdir sname ddir dname) = same sdir ddir ≡ true
StaysInside o = ⊥

-- a file goes or moves; or its parts keep it; or it stays in its directory
abbrev pub WhyKept : Kind → Mode2 → Op → Type 0
WhyKept kind mode o = (kind ≡ File) ⊎ ((mode ≡ Freeze) ⊎ StaysInside o)

pub why_kept : (kind : Kind) (mode : Mode2) (o : Op) → FreezesFor kind mode o → (kind ≡ File) ⊎ StaysIn o → WhyKept kind mode o
why_kept kind mode o f (inl e) = inl e
why_kept kind mode (op.Delete dir name) f (inr t) = elim f as (λ _. WhyKept kind mode (op.Delete dir name)) [
  | inl e ↦ inl e
  | inr e ↦ inr (inl e)
]
why_kept kind mode (op.Rename sdir sname ddir dname) f (inr t) = inr (inr t)
why_kept kind mode o f (inr t) = absurd t

-- ## Its part

file_keeps : (o : Op) (file : List ℕ) → freeze_at Freeze o file file ≡ Some file
file_keeps o file =
    ap (λ b. cond (same file (source_of o) || b) (Some file) None) (same_self file) ∙ elim (same file (source_of o)) as
    (λ b. cond (b || true) (Some file) None ≡ Some file) [ true ↦ refl | false ↦ refl ]

module _ (held m : RecordMap) (journal : List Item) (kind : Kind) (mode : Mode2) (file : List ℕ) (is : made journal file ≡ Some kind)
    (p : Part) where
  -- the part names it
  at_source : (o : Op) → p.freeze ≡ freeze_at mode o file p.file → p.file ≡ source_of o → mode ≡ Freeze → p.freeze ≡ Some file
  at_source o freeze source e = freeze ∙ ap₂ (λ x f. freeze_at x o file f) e source ∙ source_keeps o file []

  at_file : (o : Op) → p.freeze ≡ freeze_at mode o file p.file → p.file ≡ file → mode ≡ Freeze → p.freeze ≡ Some file
  at_file o freeze its e = freeze ∙ ap₂ (λ x f. freeze_at x o file f) e its ∙ file_keeps o file

  -- a name goes
  name_kept : (o : Op) (dir name : List ℕ) → p.freeze ≡ freeze_at mode o file p.file → dir ≡ p.file → source_of o ≡ dir
      → (kind ≡ File) ⊎ (mode ≡ Freeze) → child_of (get (nodes_of held) dir) name ≡ Some file → PlaceLeft held m (SetChild dir name None)
      → IsKeptFor m journal p (SetChild dir name None)
  name_kept o dir name freeze its source why named left g child =
      let both : Some g ≡ Some file = sym child ∙ left ∙ sym (ap (λ n. child_of n name) (node_there held dir)) ∙ named in
      let same_file : g ≡ file = cc in
      elim why as (λ _. (made journal g ≡ Some File) ⊎ (p.freeze ≡ Some g)) [
        | inl e ↦ inl (ap (made journal) same_file ∙ is ∙ ap Some e)
        | inr e ↦ inr (at_source o freeze (sym its ∙ sym source) e ∙ ap Some (sym same_file))
      ]

  pub effect_kept : (o : Op) → p.freeze ≡ freeze_at mode o file p.file → same (home_of o) p.file ≡ false → WhyKept kind mode o
      → named_file (nodes_of held) o ≡ Some file → dir_here held file ≡ Some (source_of o) → (e : Effect)
      → In e (led_effects o file (reply_of o)) → changed_file e ≡ p.file → PlaceLeft held m e → IsKeptFor m journal p e
  effect_kept (op.Delete dir name) freeze away why named stands e (inl q) its left =
      let go : IsKeptFor m journal p (SetChild dir name None) =
      name_kept (op.Delete dir name) dir name freeze (sym (ap changed_file q) ∙ its) refl
      (elim why as (λ _. (kind ≡ File) ⊎ (mode ≡ Freeze)) [ inl x ↦ inl x | inr (inl x) ↦ inr x | inr (inr x) ↦ absurd x ]) named
      (subst (PlaceLeft held m) q left) in
      subst (IsKeptFor m journal p) (sym q) go
  effect_kept (op.Delete dir name) freeze away why named stands e (inr (inl q)) its left =
      let go : IsKeptFor m journal p (RemoveNode file) =
      elim why as (λ _. (made journal file ≡ Some File) ⊎ (p.freeze ≡ Some file)) [
        | inl x ↦ inl (is ∙ ap Some x)
        | inr (inl x) ↦ inr (at_file (op.Delete dir name) freeze (sym (sym (ap changed_file q) ∙ its)) x)
        | inr (inr x) ↦ absurd x
      ] in
      subst (IsKeptFor m journal p) (sym q) go
  effect_kept (op.Delete dir name) freeze away why named stands e (inr (inr z)) its left = absurd z
  effect_kept (op.Rename sdir sname ddir dname) freeze away why named stands e (inl q) its left =
      subst (IsKeptFor m journal p) (sym q) tt
  effect_kept (op.Rename sdir sname ddir dname) freeze away why named stands e (inr (inl q)) its left =
      let source : sdir ≡ p.file = sym (ap changed_file q) ∙ its in
      let go : IsKeptFor m journal p (SetChild sdir sname None) =
      name_kept (op.Rename sdir sname ddir dname) sdir sname freeze source refl
      (elim why as (λ _. (kind ≡ File) ⊎ (mode ≡ Freeze)) [
        | inl x ↦ inl x
        | inr (inl x) ↦ inr x
        | inr (inr x) ↦
            let home : ddir ≡ p.file = sym (same_is sdir ddir x) ∙ source in
            let wrong : true ≡ false = sym (same_self p.file) ∙ ap (λ f. same f p.file) (sym home) ∙ away in
            absurd (cc wrong)
      ]) named (subst (PlaceLeft held m) q left) in
      subst (IsKeptFor m journal p) (sym q) go
  effect_kept (op.Rename sdir sname ddir dname) freeze away why named stands e (inr (inr (inl q))) its left =
      let here : PlaceLeft held m (SetParent file ddir dname) = subst (PlaceLeft held m) q left in
      let go : IsKeptFor m journal p (SetParent file ddir dname) =
      elim why as (λ _. (made journal file ≡ Some File) ⊎ ((p.freeze ≡ Some file) ⊎ (dir_here m file ≡ Some ddir))) [
        | inl x ↦ inl (is ∙ ap Some x)
        | inr (inl x) ↦
            inr (inl (at_file (op.Rename sdir sname ddir dname) freeze (sym (sym (ap changed_file q) ∙ its)) x))
        | inr (inr x) ↦ inr (inr (here ∙ stands ∙ ap Some (same_is sdir ddir x)))
      ] in
      subst (IsKeptFor m journal p) (sym q) go
  effect_kept (op.Rename sdir sname ddir dname) freeze away why named stands e (inr (inr (inr z))) its left = absurd z
  effect_kept o freeze away why named stands e i its left = absurd i
