-- Handles of one file after a change: their order, their accesses, and that none conflict.
use Rattle.std.proofs.Common.{◌≡◌, ℕ, List, [], ◌∷◌, refl, sym, ap, ◌∙◌, Bool, true, false, cond, not, ◌||◌, arith, Some}
use Rattle.std.proofs.lemmas.Bool.{and_parts, and_from, or_parts, or_from, not-true, not_from_false}
use Rattle.std.specs.List.{filter}
use Rattle.std.proofs.lemmas.Bool.Decides.{nat_tests}
use Rattle.fs_ident.specs.declared.actor.Session.{Session}
use Rattle.fs_modes.specs.declared.modes.Modes.{Modes}
use Rattle.fs_modes.specs.Modes.{conflicts, is_denied, has_access}
use Rattle.fs_model.specs.declared.node.Handle.{Handle}
use Rattle.fs_model.specs.Handles.{is_at, comes_before, handle_at, with_handle, any_conflicts}
use Rattle.fs_model.specs.Sound.{all_have_access, none_conflict}

either_way : (a b : Bool) → (a || b) ≡ (b || a)
either_way true true = refl
either_way true false = refl
either_way false true = refl
either_way false false = refl

pub conflicts_comm : (a b : Modes) → conflicts a b ≡ conflicts b a
conflicts_comm a b = either_way (is_denied a b) (is_denied b a)

-- ## With one more handle

any_with : (xs : List Handle) (new : Handle) (modes : Modes) → conflicts new.modes modes ≡ false → any_conflicts xs modes ≡ false → any_conflicts (with_handle xs new) modes ≡ false
any_with [] new modes p q = or_from _ _ p q
any_with (x ∷ xs) new modes p q =
    elim (comes_before new x) as (λ b. any_conflicts (cond b (new ∷ x ∷ xs) (x ∷ with_handle xs new)) modes ≡ false) [
      | true ↦ or_from _ _ p q
      | false ↦ (let parts = or_parts (conflicts x.modes modes) (any_conflicts xs modes) q in or_from _ _ parts.0 (any_with xs new modes p parts.1))
    ]

pub none_conflict_with : (xs : List Handle) (new : Handle) → any_conflicts xs new.modes ≡ false → none_conflict xs ≡ true → none_conflict (with_handle xs new) ≡ true
none_conflict_with [] new p q = refl
none_conflict_with (x ∷ xs) new p q =
    elim (comes_before new x) as (λ b. none_conflict (cond b (new ∷ x ∷ xs) (x ∷ with_handle xs new)) ≡ true) [
      | true ↦ and_from _ _ (not_from_false _ p) q
      | false ↦ (
          let free = or_parts (conflicts x.modes new.modes) (any_conflicts xs new.modes) p in
          let parts = and_parts (not (any_conflicts xs x.modes)) (none_conflict xs) q in
          and_from _ _ (not_from_false _ (any_with xs new x.modes (conflicts_comm new.modes x.modes ∙ free.0) (not-true _ parts.0))) (none_conflict_with xs new free.1 parts.1))
    ]

pub access_with : (xs : List Handle) (new : Handle) → has_access new.modes ≡ true → all_have_access xs ≡ true → all_have_access (with_handle xs new) ≡ true
access_with [] new p q = and_from _ _ p q
access_with (x ∷ xs) new p q =
    elim (comes_before new x) as (λ b. all_have_access (cond b (new ∷ x ∷ xs) (x ∷ with_handle xs new)) ≡ true) [
      | true ↦ and_from _ _ p q
      | false ↦ (let parts = and_parts (has_access x.modes) (all_have_access xs) q in and_from _ _ parts.0 (access_with xs new p parts.1))
    ]

-- ## With some of the handles

module _ (p : Handle → Bool) where
  any_some : (xs : List Handle) (modes : Modes) → any_conflicts xs modes ≡ false → any_conflicts (filter p xs) modes ≡ false
  any_some [] modes q = refl
  any_some (x ∷ xs) modes q =
      let parts = or_parts (conflicts x.modes modes) (any_conflicts xs modes) q in
      elim (p x) as (λ b. any_conflicts (cond b (x ∷ filter p xs) (filter p xs)) modes ≡ false) [
        | true ↦ or_from _ _ parts.0 (any_some xs modes parts.1)
        | false ↦ any_some xs modes parts.1
      ]

  pub none_conflict_some : (xs : List Handle) → none_conflict xs ≡ true → none_conflict (filter p xs) ≡ true
  none_conflict_some [] q = refl
  none_conflict_some (x ∷ xs) q =
      let parts = and_parts (not (any_conflicts xs x.modes)) (none_conflict xs) q in
      elim (p x) as (λ b. none_conflict (cond b (x ∷ filter p xs) (filter p xs)) ≡ true) [
        | true ↦ and_from _ _ (not_from_false _ (any_some xs x.modes (not-true _ parts.0))) (none_conflict_some xs parts.1)
        | false ↦ none_conflict_some xs parts.1
      ]

  pub access_some : (xs : List Handle) → all_have_access xs ≡ true → all_have_access (filter p xs) ≡ true
  access_some [] q = refl
  access_some (x ∷ xs) q =
      let parts = and_parts (has_access x.modes) (all_have_access xs) q in
      elim (p x) as (λ b. all_have_access (cond b (x ∷ filter p xs) (filter p xs)) ≡ true) [
        | true ↦ and_from _ _ parts.0 (access_some xs parts.1)
        | false ↦ access_some xs parts.1
      ]

-- ## Two handles of one file

-- a handle at a session and a number conflicts with none, where none of all does
found_free : (xs : List Handle) (modes : Modes) (s : Session) (h : ℕ) (found : Modes) → any_conflicts xs modes ≡ false → handle_at xs s h ≡ Some found → conflicts found modes ≡ false
found_free [] modes s h found q e = absurd (cc e)
found_free (x ∷ xs) modes s h found q e = by (is_at s h x) e (found_free xs modes s h found parts.1)
  where
    parts : (conflicts x.modes modes ≡ false) × (any_conflicts xs modes ≡ false)
    parts = or_parts _ _ q

    by : (b : Bool) → cond b (Some x.modes) (handle_at xs s h) ≡ Some found → (handle_at xs s h ≡ Some found → conflicts found modes ≡ false) → conflicts found modes ≡ false
    by true e more = let q : x.modes ≡ found = cc e in ap (λ (m : Modes). conflicts m modes) (sym q) ∙ parts.0
    by false e more = more e

pub two_apart : (xs : List Handle) (s t : Session) (h k : ℕ) (a b : Modes) → none_conflict xs ≡ true → handle_at xs s h ≡ Some a → handle_at xs t k ≡ Some b → (s.0 ≡ t.0 → h ≡ k → ⊥) → conflicts a b ≡ false
two_apart [] s t h k a b q ea eb other = absurd (cc ea)
two_apart (x ∷ xs) s t h k a b q ea eb other = by (is_at s h x) refl ea (is_at t k x) refl eb (two_apart xs s t h k a b parts.1)
  where
    parts : (not (any_conflicts xs x.modes) ≡ true) × (none_conflict xs ≡ true)
    parts = and_parts _ _ q

    by : (c : Bool) → is_at s h x ≡ c → cond c (Some x.modes) (handle_at xs s h) ≡ Some a → (d : Bool) → is_at t k x ≡ d → cond d (Some x.modes) (handle_at xs t k) ≡ Some b → (handle_at xs s h ≡ Some a → handle_at xs t k ≡ Some b → (s.0 ≡ t.0 → h ≡ k → ⊥) → conflicts a b ≡ false) → conflicts a b ≡ false
    by true c ea true d eb more =
        let one : s.0 ≡ t.0 = grind (arith, nat_tests) in
        let two : h ≡ k = grind (arith, nat_tests) in
        absurd (other one two)
    by true c ea false d eb more =
        let e : x.modes ≡ a = cc ea in
        conflicts_comm a b ∙ ap (conflicts b) (sym e) ∙ found_free xs x.modes t k b (not-true _ parts.0) eb
    by false c ea true d eb more =
        let e : x.modes ≡ b = cc eb in
        ap (conflicts a) (sym e) ∙ found_free xs x.modes s h a (not-true _ parts.0) ea
    by false c ea false d eb more = more ea eb other
