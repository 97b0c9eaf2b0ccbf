-- What is told of the sessions with handles.
use Rattle.std.proofs.Common.{◌≡◌, ℕ, List, [], ◌∷◌, Bool, true, false, refl, ap, sym, ◌∙◌, cond, arith}
use Rattle.std.specs.Prelude.{Some, None, not, ◌==◌, ◌||◌, nat_lt}
use Rattle.std.specs.List.{list_all}
use Rattle.std.proofs.lemmas.Bool.Decides.{nat_tests}
use Rattle.std.proofs.Math.Bool.{or_assoc, or-false}
use Rattle.fs_ident.specs.declared.actor.Session.{Session}
use Rattle.fs_modes.specs.declared.modes.Modes.{Modes}
use Rattle.fs_modes.specs.Modes.{or, none}
use Rattle.fs_model.specs.declared.node.Handle.{Handle}
use Rattle.fs_model.specs.Handles.{comes_before, is_before_all, handles_are_in_order}
use Rattle.fs_ident.proofs.Booleans.{first, second, joined}
use Rattle.fs_record.specs.ValueOf.{selves_from, selves_of, has_handle, modes_of, modes_told_of, is_by_session}

or_none : (m : Modes) → or m none ≡ m
or_none m = λ i. record {
  acc_r = or-false m.acc_r i;
  acc_w = or-false m.acc_w i;
  acc_d = or-false m.acc_d i;
  deny_r = or-false m.deny_r i;
  deny_w = or-false m.deny_w i;
  deny_d = or-false m.deny_d i;
}

or_or : (a b c : Modes) → or (or a b) c ≡ or a (or b c)
or_or a b c = λ i. record {
  acc_r = or_assoc a.acc_r b.acc_r c.acc_r i;
  acc_w = or_assoc a.acc_w b.acc_w c.acc_w i;
  acc_d = or_assoc a.acc_d b.acc_d c.acc_d i;
  deny_r = or_assoc a.deny_r b.deny_r c.deny_r i;
  deny_w = or_assoc a.deny_w b.deny_w c.deny_w i;
  deny_d = or_assoc a.deny_d b.deny_d c.deny_d i;
}

-- no handle is of a session before this one
abbrev pub from_on : Session → List Handle → Bool
from_on s hs = list_all (λ x. not (nat_lt x.session.0 s.0)) hs

after_one : (x y : Handle) → comes_before x y ≡ true → not (nat_lt y.session.0 x.session.0) ≡ true
after_one x y h = grind (arith, nat_tests)

pub from_first : (x : Handle) (xs : List Handle) → is_before_all x xs ≡ true → from_on x.session xs ≡ true
from_first x [] h = refl
from_first x (y ∷ ys) h = joined _ _ (after_one x y (first _ _ h)) (from_first x ys (second _ _ h))

not_before : (s : Session) (x : Handle) → nat_lt s.0 x.session.0 ≡ true → (x.session.0 == s.0) ≡ false
not_before s x h = grind (arith, nat_tests)

pub further : (s : Session) (x y : Handle) → nat_lt s.0 x.session.0 ≡ true → not (nat_lt y.session.0 x.session.0) ≡ true → nat_lt s.0 y.session.0 ≡ true
further s x y h g = grind (arith, nat_tests)

-- a session before all of them has none of them
none_before : (s : Session) (x : Handle) (hs : List Handle) → nat_lt s.0 x.session.0 ≡ true → from_on x.session hs ≡ true → (has_handle s hs ≡ false) × (modes_of s hs ≡ none)
none_before s x [] h g = (refl, refl)
none_before s x (y ∷ ys) h g =
    let b : (y.session.0 == s.0) ≡ false = not_before s y (further s x y h (first _ _ g)) in
    let rest = none_before s x ys h (second _ _ g) in
    (rw b rest.0, rw b rest.1)

pub rises : (s : Session) (x : Handle) → not (nat_lt x.session.0 s.0) ≡ true → (x.session.0 == s.0) ≡ false → nat_lt s.0 x.session.0 ≡ true
rises s x h e = grind (arith, nat_tests)

agree : (a b s : ℕ) → (a == b) ≡ true → (a == s) ≡ (b == s)
agree a b s e = let q : a ≡ b = grind (arith, nat_tests) in ap (λ n. n == s) q

apart : (a b s : ℕ) → (a == b) ≡ false → (b == s) ≡ true → (a == s) ≡ false
apart a b s e f = grind (arith, nat_tests)

one_more : (b h : Bool) (m own rest : Modes) → cond b (Some (or (or m own) rest)) (cond h (Some rest) None) ≡ cond b (Some (or m (cond b (or own rest) rest))) (cond (b || h) (Some (cond b (or own rest) rest)) None)
one_more true h m own rest = ap Some (or_or m own rest)
one_more false h m own rest = refl

another : (b h : Bool) (own rest : Modes) → cond b (Some (or own rest)) (cond h (Some rest) None) ≡ cond (b || h) (Some (cond b (or own rest) rest)) None
another true h own rest = refl
another false h own rest = refl

before_it : (s t : Session) (x : Handle) → not (nat_lt x.session.0 t.0) ≡ true → (x.session.0 == t.0) ≡ false → (t.0 == s.0) ≡ true → nat_lt s.0 x.session.0 ≡ true
before_it s t x h e f = grind (arith, nat_tests)

-- what is told of a session, where this one is told first
told_from : (s t : Session) (m : Modes) (hs : List Handle) → handles_are_in_order hs ≡ true → from_on t hs ≡ true
    → modes_told_of s (selves_from t m hs) ≡ cond (t.0 == s.0) (Some (or m (modes_of s hs))) (cond (has_handle s hs) (Some (modes_of s hs)) None)
told_from s t m [] h g = ap (λ (x : Modes). cond (t.0 == s.0) (Some x) None) (sym (or_none m))
told_from s t m (x ∷ xs) h g = within (x.session.0 == t.0) refl (told_from s t (or m x.modes) xs (second _ _ h) (second _ _ g)) (told_from s x.session x.modes xs (second _ _ h) (from_first x xs (first _ _ h))) (first _ _ g) (from_first x xs (first _ _ h))
  where
    within : (b : Bool) → (x.session.0 == t.0) ≡ b
        → modes_told_of s (selves_from t (or m x.modes) xs) ≡ cond (t.0 == s.0) (Some (or (or m x.modes) (modes_of s xs))) (cond (has_handle s xs) (Some (modes_of s xs)) None)
        → modes_told_of s (selves_from x.session x.modes xs) ≡ cond (x.session.0 == s.0) (Some (or x.modes (modes_of s xs))) (cond (has_handle s xs) (Some (modes_of s xs)) None)
        → not (nat_lt x.session.0 t.0) ≡ true → from_on x.session xs ≡ true
        → modes_told_of s (cond b (selves_from t (or m x.modes) xs) ((t, m) ∷ selves_from x.session x.modes xs))
        ≡ cond (t.0 == s.0) (Some (or m (modes_of s (x ∷ xs)))) (cond (has_handle s (x ∷ xs)) (Some (modes_of s (x ∷ xs))) None)
    within true e p q low on =
        p ∙ one_more (t.0 == s.0) (has_handle s xs) m x.modes (modes_of s xs)
        ∙ ap (λ b. cond (t.0 == s.0) (Some (or m (cond b (or x.modes (modes_of s xs)) (modes_of s xs)))) (cond (b || has_handle s xs) (Some (cond b (or x.modes (modes_of s xs)) (modes_of s xs))) None)) (sym (agree x.session.0 t.0 s.0 e))
    within false e p q low on = elim (t.0 == s.0) as (λ b. (t.0 == s.0) ≡ b → cond b (Some m) (modes_told_of s (selves_from x.session x.modes xs)) ≡ cond b (Some (or m (modes_of s (x ∷ xs)))) (cond (has_handle s (x ∷ xs)) (Some (modes_of s (x ∷ xs))) None)) [
      | true ↦ λ f.
          let none_of : (has_handle s xs ≡ false) × (modes_of s xs ≡ none) = none_before s x xs (before_it s t x low e f) on in
          let other : (x.session.0 == s.0) ≡ false = apart x.session.0 t.0 s.0 e f in
          rw (other, none_of.1) (ap Some (sym (or_none m)))
      | false ↦ λ f. q ∙ another (x.session.0 == s.0) (has_handle s xs) x.modes (modes_of s xs)
    ] refl

pub selves_told : (s : Session) (hs : List Handle) → handles_are_in_order hs ≡ true → modes_told_of s (selves_of hs) ≡ cond (has_handle s hs) (Some (modes_of s hs)) None
selves_told s [] h = refl
selves_told s (x ∷ xs) h = told_from s x.session x.modes xs (second _ _ h) (from_first x xs (first _ _ h)) ∙ another (x.session.0 == s.0) (has_handle s xs) x.modes (modes_of s xs)

less_on : (a : ℕ) (t : Session) (x : Handle) → nat_lt a t.0 ≡ true → not (nat_lt x.session.0 t.0) ≡ true → nat_lt a x.session.0 ≡ true
less_on a t x h g = grind (arith, nat_tests)

-- each session told is greater than one that is less than the first
all_greater : (a : ℕ) (t : Session) (m : Modes) (hs : List Handle) → nat_lt a t.0 ≡ true → handles_are_in_order hs ≡ true → from_on t hs ≡ true → list_all (λ f. nat_lt a f.0.0) (selves_from t m hs) ≡ true
all_greater a t m [] l h g = joined _ _ l refl
all_greater a t m (x ∷ xs) l h g = within (x.session.0 == t.0) (all_greater a t (or m x.modes) xs l (second _ _ h) (second _ _ g)) (all_greater a x.session x.modes xs (less_on a t x l (first _ _ g)) (second _ _ h) (from_first x xs (first _ _ h)))
  where
    within : (b : Bool) → list_all (λ f. nat_lt a f.0.0) (selves_from t (or m x.modes) xs) ≡ true → list_all (λ f. nat_lt a f.0.0) (selves_from x.session x.modes xs) ≡ true
        → list_all (λ f. nat_lt a f.0.0) (cond b (selves_from t (or m x.modes) xs) ((t, m) ∷ selves_from x.session x.modes xs)) ≡ true
    within true p q = p
    within false p q = joined _ _ l q

rising : (t : Session) (m : Modes) (hs : List Handle) → handles_are_in_order hs ≡ true → from_on t hs ≡ true → is_by_session (selves_from t m hs) ≡ true
rising t m [] h g = refl
rising t m (x ∷ xs) h g = within (x.session.0 == t.0) refl (rising t (or m x.modes) xs (second _ _ h) (second _ _ g)) (rising x.session x.modes xs (second _ _ h) (from_first x xs (first _ _ h))) (first _ _ g) (second _ _ h) (from_first x xs (first _ _ h))
  where
    within : (b : Bool) → (x.session.0 == t.0) ≡ b → is_by_session (selves_from t (or m x.modes) xs) ≡ true → is_by_session (selves_from x.session x.modes xs) ≡ true
        → not (nat_lt x.session.0 t.0) ≡ true → handles_are_in_order xs ≡ true → from_on x.session xs ≡ true
        → is_by_session (cond b (selves_from t (or m x.modes) xs) ((t, m) ∷ selves_from x.session x.modes xs)) ≡ true
    within true e p q low k on = p
    within false e p q low k on = joined _ _ (all_greater t.0 x.session x.modes xs (rises t x low e) k on) q

pub selves_rise : (hs : List Handle) → handles_are_in_order hs ≡ true → is_by_session (selves_of hs) ≡ true
selves_rise [] h = refl
selves_rise (x ∷ xs) h = rising x.session x.modes xs (second _ _ h) (from_first x xs (first _ _ h))
