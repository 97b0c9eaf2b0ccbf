-- Where a handle stands, and the order of handles after an edit.
use Rattle.std.proofs.Common.{◌≡◌, ℕ, zero, suc, ◌+◌, ◌<◌, ◌≤◌, List, [], ◌∷◌, length, get_or, refl, ap, ◌∙◌, arith, cond, Bool, true, false, not}
use Rattle.std.specs.Prelude.{Option, Some, None, filter, slice_set}
use Rattle.std.specs.List.{position, position_or_len}
use Rattle.std.proofs.lemmas.Bool.Decides.{nat_tests}
use Rattle.std.proofs.lemmas.List.Quantifiers.{position-Some}
use Rattle.fs_ident.proofs.Booleans.{first, second, joined}
use Rattle.fs_ident.specs.declared.actor.Session.{Session}
use Rattle.fs_ident.proofs.Options.{none_before}
use Rattle.fs_modes.specs.declared.modes.Modes.{Modes}
use Rattle.fs_model.specs.declared.node.Handle.{Handle}
use Rattle.fs_model.specs.Handles.{is_at, comes_before, is_before_all, handles_are_in_order, handle_at, with_handle, without_handle}

-- ## Where a handle stands

module _ (session : Session) (h : ℕ) where
  -- it is the first of its session and number
  found : (xs : List Handle) (i : ℕ) (d : Handle) → i < length xs → is_at session h (get_or xs i d) ≡ true → ((k : ℕ) → k < i → is_at session h (get_or xs k d) ≡ false) → handle_at xs session h ≡ Some (get_or xs i d).modes
  found [] i d lt here none = absurd (omega arith)
  found (x ∷ xs) zero d lt here none = rw here
  found (x ∷ xs) (suc i) d lt here none =
      let other : is_at session h x ≡ false = none 0 (omega arith) in
      rw other (found xs i d (omega arith) here (λ k l. none (suc k) (omega arith)))

  pub handle_there : (xs : List Handle) (i : ℕ) (d : Handle) → position (is_at session h) xs ≡ Some i → handle_at xs session h ≡ Some (get_or xs i d).modes
  handle_there xs i d e = let at = position-Some (is_at session h) xs i d e in found xs i d at.0 at.1 at.2

  none_of_all : (xs : List Handle) → length xs ≤ position_or_len (is_at session h) xs → handle_at xs session h ≡ None
  none_of_all [] l = refl
  none_of_all (x ∷ xs) l =
      elim (is_at session h x) as (λ b. length (x ∷ xs) ≤ cond (not b) (1 + position_or_len (is_at session h) xs) 0 → cond b (Some x.modes) (handle_at xs session h) ≡ None) [
        | true ↦ λ l. absurd (omega arith)
        | false ↦ λ l. none_of_all xs (omega arith)
      ] l

  pub handle_absent : (xs : List Handle) → position (is_at session h) xs ≡ None → handle_at xs session h ≡ None
  handle_absent xs e = none_of_all xs (none_before _ _ e)

-- ## Order

pub before_trans : (a b c : Handle) → comes_before a b ≡ true → comes_before b c ≡ true → comes_before a c ≡ true
before_trans a b c p q = grind (arith, nat_tests)

before_other : (a b : Handle) → comes_before a b ≡ false → is_at a.session a.h b ≡ false → comes_before b a ≡ true
before_other a b p q = grind (arith, nat_tests)

pub before_all_trans : (a b : Handle) (xs : List Handle) → comes_before a b ≡ true → is_before_all b xs ≡ true → is_before_all a xs ≡ true
before_all_trans a b [] p h = refl
before_all_trans a b (x ∷ xs) p h = joined _ _ (before_trans a b x p (first _ _ h)) (before_all_trans a b xs p (second _ _ h))

before_all_with : (a new : Handle) (xs : List Handle) → comes_before a new ≡ true → is_before_all a xs ≡ true → is_before_all a (with_handle xs new) ≡ true
before_all_with a new [] p h = joined _ _ p refl
before_all_with a new (x ∷ xs) p h =
    elim (comes_before new x) as (λ b. is_before_all a (cond b (new ∷ x ∷ xs) (x ∷ with_handle xs new)) ≡ true) [
      | true ↦ joined _ _ p h
      | false ↦ joined _ _ (first _ _ h) (before_all_with a new xs p (second _ _ h))
    ]

none_below : (b : Bool) (m : Modes) (o : Option Modes) → cond b (Some m) o ≡ None → (b ≡ false) × (o ≡ None)
none_below true m o e = absurd (cc)
none_below false m o e = (refl, e)

-- a handle at a free number goes to its place
pub with_handle_in_order : (new : Handle) (xs : List Handle) → handle_at xs new.session new.h ≡ None → handles_are_in_order xs ≡ true → handles_are_in_order (with_handle xs new) ≡ true
with_handle_in_order new [] free h = refl
with_handle_in_order new (x ∷ xs) free h =
    let apart : (is_at new.session new.h x ≡ false) × (handle_at xs new.session new.h ≡ None) = none_below _ _ _ free in
    elim (comes_before new x) as (λ b. comes_before new x ≡ b → handles_are_in_order (cond b (new ∷ x ∷ xs) (x ∷ with_handle xs new)) ≡ true) [
      | true ↦ λ e. joined _ _ (joined _ _ e (before_all_trans new x xs e (first _ _ h))) h
      | false ↦ λ e. joined _ _ (before_all_with x new xs (before_other new x e apart.0) (first _ _ h)) (with_handle_in_order new xs apart.1 (second _ _ h))
    ] refl

before_all_filter : (p : Handle → Bool) (a : Handle) (xs : List Handle) → is_before_all a xs ≡ true → is_before_all a (filter p xs) ≡ true
before_all_filter p a [] h = refl
before_all_filter p a (x ∷ xs) h =
    elim (p x) as (λ b. is_before_all a (cond b (x ∷ filter p xs) (filter p xs)) ≡ true) [
      | true ↦ joined _ _ (first _ _ h) (before_all_filter p a xs (second _ _ h))
      | false ↦ before_all_filter p a xs (second _ _ h)
    ]

-- some of the handles, in the same order
pub filter_in_order : (p : Handle → Bool) (xs : List Handle) → handles_are_in_order xs ≡ true → handles_are_in_order (filter p xs) ≡ true
filter_in_order p [] h = refl
filter_in_order p (x ∷ xs) h =
    elim (p x) as (λ b. handles_are_in_order (cond b (x ∷ filter p xs) (filter p xs)) ≡ true) [
      | true ↦ joined _ _ (before_all_filter p x xs (first _ _ h)) (filter_in_order p xs (second _ _ h))
      | false ↦ filter_in_order p xs (second _ _ h)
    ]

-- ## In place of another

-- what the session has not open is not taken away
pub without_absent : (xs : List Handle) (session : Session) (h : ℕ) → handle_at xs session h ≡ None → without_handle xs session h ≡ xs
without_absent [] session h e = refl
without_absent (x ∷ xs) session h e =
    let apart : (is_at session h x ≡ false) × (handle_at xs session h ≡ None) = none_below _ _ _ e in
    rw apart.0 (ap (λ xs. x ∷ xs) (without_absent xs session h apart.1))

-- what was taken away is absent
pub handle_at-without_handle : (xs : List Handle) (session : Session) (h : ℕ) → handle_at (without_handle xs session h) session h ≡ None
handle_at-without_handle [] session h = refl
handle_at-without_handle (x ∷ xs) session h =
    elim (is_at session h x) as (λ b. is_at session h x ≡ b → handle_at (cond (not b) (x ∷ without_handle xs session h) (without_handle xs session h)) session h ≡ None) [
      | true ↦ λ e. handle_at-without_handle xs session h
      | false ↦ λ e. rw e (handle_at-without_handle xs session h)
    ] refl

module _ (new : Handle) where
  -- the handle takes the number's place
  abbrev Takes : Handle → Type 0
  Takes x = is_at new.session new.h x ≡ true

  other_after : (x y : Handle) → Takes x → comes_before x y ≡ true → is_at new.session new.h y ≡ false
  other_after x y t b = grind (arith, nat_tests)

  before_after : (x y : Handle) → Takes x → comes_before x y ≡ true → comes_before new y ≡ true
  before_after x y t b = grind (arith, nat_tests)

  other_before : (x y : Handle) → comes_before x y ≡ true → Takes y → is_at new.session new.h x ≡ false
  other_before x y b t = grind (arith, nat_tests)

  not_before : (x y : Handle) → comes_before x y ≡ true → Takes y → comes_before new x ≡ false
  not_before x y b t = grind (arith, nat_tests)

  before_at : (x : Handle) (xs : List Handle) (i : ℕ) (d : Handle) → is_before_all x xs ≡ true → i < length xs → comes_before x (get_or xs i d) ≡ true
  before_at x [] i d h l = absurd (omega arith)
  before_at x (y ∷ ys) zero d h l = first _ _ h
  before_at x (y ∷ ys) (suc i) d h l = before_at x ys i d (second _ _ h) (omega arith)

  absent_after : (x : Handle) (xs : List Handle) → Takes x → is_before_all x xs ≡ true → handle_at xs new.session new.h ≡ None
  absent_after x [] t h = refl
  absent_after x (y ∷ ys) t h = rw (other_after x y t (first _ _ h)) (absent_after x ys t (second _ _ h))

  goes_first : (x : Handle) (xs : List Handle) → Takes x → is_before_all x xs ≡ true → with_handle xs new ≡ new ∷ xs
  goes_first x [] t h = refl
  goes_first x (y ∷ ys) t h = rw (before_after x y t (first _ _ h))

  in_place : (xs : List Handle) (i : ℕ) (d : Handle) → handles_are_in_order xs ≡ true → i < length xs → Takes (get_or xs i d) → with_handle (without_handle xs new.session new.h) new ≡ slice_set xs i new
  in_place [] i d h l t = absurd (omega arith)
  in_place (x ∷ xs) zero d h l t =
      rw t (ap (λ ys. with_handle ys new) (without_absent xs new.session new.h (absent_after x xs t (first _ _ h))) ∙ goes_first x xs t (first _ _ h))
  in_place (x ∷ xs) (suc i) d h l t =
      let b = before_at x xs i d (first _ _ h) (omega arith) in
      rw (other_before x (get_or xs i d) b t, not_before x (get_or xs i d) b t) (ap (λ ys. x ∷ ys) (in_place xs i d (second _ _ h) (omega arith) t))

  pub reopen_at : (xs : List Handle) (i : ℕ) → handles_are_in_order xs ≡ true → position (is_at new.session new.h) xs ≡ Some i → with_handle (without_handle xs new.session new.h) new ≡ slice_set xs i new
  reopen_at xs i h e = let at = position-Some (is_at new.session new.h) xs i new e in in_place xs i new h at.0 at.1

  pub reopen_new : (xs : List Handle) → position (is_at new.session new.h) xs ≡ None → with_handle (without_handle xs new.session new.h) new ≡ with_handle xs new
  reopen_new xs e = ap (λ ys. with_handle ys new) (without_absent xs new.session new.h (handle_absent new.session new.h xs e))
