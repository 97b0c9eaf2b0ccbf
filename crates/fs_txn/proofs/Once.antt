-- A part votes once.
use Rattle.std.proofs.Common.{◌≡◌, ◌≤◌, ℕ, zero, suc, ◌==◌, ◌&&◌, Bool, true, false, List, [], ◌∷◌, length, refl, sym, ap, ◌∙◌, subst, cond, not, arith}
use Rattle.std.specs.Prelude.{Option, Some, None, nat_lt, slice_get, slice_set}
use Rattle.std.proofs.lemmas.Bool.{eqb-true}
use Rattle.fs_field.specs.declared.vote.Vote.{Vote}
use Rattle.fs_field.specs.declared.vote.Vote.TheVariants.{Yes, Ended, Moved, PathsOut}
use Rattle.fs_ident.proofs.Booleans.{first, second}
use Rattle.fs_txn.specs.Votes.{Votes, after_vote, after_votes, are_awaited, awaits, counted_of, is_empty_place, is_moved, votes_after}
use Rattle.fs_txn.specs.declared.leader.Leader.{Leader}

-- ## By place

set_here : {X : Type 0} (xs : List X) (k : ℕ) (x y : X) → slice_get xs k ≡ Some x → slice_get (slice_set xs k y) k ≡ Some y
set_here [] k x y h = absurd (cc h)
set_here (z ∷ zs) zero x y h = refl
set_here (z ∷ zs) (suc k) x y h = set_here zs k x y h

set_other : {X : Type 0} (xs : List X) (k j : ℕ) (y : X) → (k ≡ j → ⊥) → slice_get (slice_set xs k y) j ≡ slice_get xs j
set_other [] k j y n = refl
set_other (z ∷ zs) zero zero y n = absurd (n refl)
set_other (z ∷ zs) zero (suc j) y n = refl
set_other (z ∷ zs) (suc k) zero y n = refl
set_other (z ∷ zs) (suc k) (suc j) y n = set_other zs k j y (λ e. n (ap suc e))

-- ## One vote

empty_is : (o : Option (Option Vote)) → is_empty_place o ≡ true → o ≡ Some None
empty_is None h = absurd (cc h)
empty_is (Some None) h = refl
empty_is (Some (Some v)) h = absurd (cc h)

place_is : (l : Leader) (part : ℕ) → awaits l part ≡ true → slice_get l.votes part ≡ Some None
place_is l part h = empty_is (slice_get l.votes part) (second (nat_lt part (length l.parts)) (is_empty_place (slice_get l.votes part)) h)

-- the vote stands in the part's place
abbrev pub HasVoted : Leader → ℕ → Vote → Type 0
HasVoted l part v = slice_get l.votes part ≡ Some (Some v)

voted_here : (votes : Votes) (part : ℕ) (v : Vote) → is_moved v ≡ false → slice_get votes part ≡ Some None → slice_get (votes_after votes part v) part ≡ Some (Some v)
voted_here votes part Yes h e = set_here votes part None (Some Yes) e
voted_here votes part (Ended lease until now) h e = set_here votes part None (Some (Ended lease until now)) e
voted_here votes part (PathsOut lease) h e = set_here votes part None (Some (PathsOut lease)) e
voted_here votes part (Moved prefix to) h e = absurd (cc h)

pub counts : (l : Leader) (part : ℕ) (v : Vote) → awaits l part ≡ true → is_moved v ≡ false → HasVoted (after_vote part v l) part v
counts l part v a h = voted_here l.votes part v h (place_is l part a)

pub other_stays : (votes : Votes) (part other : ℕ) (v : Vote) → (part ≡ other → ⊥) → slice_get (votes_after votes part v) other ≡ slice_get votes other
other_stays votes part other Yes n = set_other votes part other (Some Yes) n
other_stays votes part other (Ended lease until now) n = set_other votes part other (Some (Ended lease until now)) n
other_stays votes part other (PathsOut lease) n = set_other votes part other (Some (PathsOut lease)) n
other_stays votes part other (Moved prefix to) n = refl

-- a part that has voted is not awaited
not_awaited : (l : Leader) (part : ℕ) (v : Vote) → HasVoted l part v → awaits l part ≡ true → ⊥
not_awaited l part v h a = let e : Some None ≡ Some (Some v) = sym (place_is l part a) ∙ h in absurd (cc e)

-- its vote stays whatever comes
stays : (l : Leader) (part other : ℕ) (v w : Vote) → HasVoted l other w → awaits l part ≡ true → HasVoted (after_vote part v l) other w
stays l part other v w h a = other_stays l.votes part other v (λ e. not_awaited l part w (subst (λ k. HasVoted l k w) (sym e) h) a) ∙ h

-- ## Votes, one after another

pub stays_for_ever : (l : Leader) (part : ℕ) (v : Vote) (votes : List (ℕ × Vote)) → HasVoted l part v → are_awaited votes l ≡ true → HasVoted (after_votes votes l) part v
stays_for_ever l part v [] h a = h
stays_for_ever l part v (x ∷ xs) h a =
    stays_for_ever (after_vote x.0 x.1 l) part v xs
    (stays l x.0 part x.1 v h (first (awaits l x.0) (are_awaited xs (after_vote x.0 x.1 l)) a))
    (second (awaits l x.0) (are_awaited xs (after_vote x.0 x.1 l)) a)

-- the item of a filtered list, and the rest
more : {X : Type 0} (b : Bool) (x : X) (xs : List X) → b ≡ false → cond b (x ∷ xs) xs ≡ xs
more b x xs h = ap (λ b. cond b (x ∷ xs) xs) h

none_more : (l : Leader) (part : ℕ) (v : Vote) (votes : List (ℕ × Vote)) → HasVoted l part v → are_awaited votes l ≡ true → counted_of part votes ≡ []
none_more l part v [] h a = refl
none_more l part v (x ∷ xs) h a =
    let here : awaits l x.0 ≡ true = first (awaits l x.0) (are_awaited xs (after_vote x.0 x.1 l)) a in
    let rest : are_awaited xs (after_vote x.0 x.1 l) ≡ true = second (awaits l x.0) (are_awaited xs (after_vote x.0 x.1 l)) a in
    more ((x.0 == part) && not (is_moved x.1)) x (counted_of part xs) (other (x.0 == part) refl here)
    ∙ none_more (after_vote x.0 x.1 l) part v xs (stays l x.0 part x.1 v h here) rest
  where
    other : (b : Bool) → (x.0 == part) ≡ b → awaits l x.0 ≡ true → (b && not (is_moved x.1)) ≡ false
    other true e here = absurd (not_awaited l x.0 v (subst (λ k. HasVoted l k v) (sym (eqb-true x.0 part e)) h) here)
    other false e here = refl

pub at_most_one : (l : Leader) (part : ℕ) (votes : List (ℕ × Vote)) → are_awaited votes l ≡ true → length (counted_of part votes) ≤ 1
at_most_one l part [] a = omega arith
at_most_one l part (x ∷ xs) a = by (x.0 == part) (is_moved x.1) refl refl (at_most_one (after_vote x.0 x.1 l) part xs (second (awaits l x.0) (are_awaited xs (after_vote x.0 x.1 l)) a))
  where
    here : awaits l x.0 ≡ true
    here = first (awaits l x.0) (are_awaited xs (after_vote x.0 x.1 l)) a

    rest : are_awaited xs (after_vote x.0 x.1 l) ≡ true
    rest = second (awaits l x.0) (are_awaited xs (after_vote x.0 x.1 l)) a

    by : (b m : Bool) → (x.0 == part) ≡ b → is_moved x.1 ≡ m → length (counted_of part xs) ≤ 1 → length (cond (b && not m) (x ∷ counted_of part xs) (counted_of part xs)) ≤ 1
    by false m e f later = later
    by true true e f later = later
    by true false e f later =
        let voted : HasVoted (after_vote x.0 x.1 l) part x.1 = subst (λ k. HasVoted (after_vote x.0 x.1 l) k x.1) (eqb-true x.0 part e) (counts l x.0 x.1 here f) in
        let none : length (counted_of part xs) ≡ 0 = ap length (none_more (after_vote x.0 x.1 l) part x.1 xs voted rest) in
        omega (arith, none)
