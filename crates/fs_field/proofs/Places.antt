-- Steps of the loops that look for the place of the first item that passes a test.
use Rattle.std.proofs.Common.{◌≡◌, ◌∙◌, ℕ, ◌+◌, ◌<◌, ◌≤◌, Bool, true, false, not, List, refl, ap, cond, length, get_or, drop, arith}
use Rattle.std.proofs.lemmas.Bool.Decides.{nat_tests}
use Rattle.std.proofs.lemmas.List.{drop_more}
use Rattle.std.proofs.lemmas.List.Sums.{prefix_len-le-length}
use Rattle.std.specs.Prelude.{Some, None, unwrap_or, nat_lt}
use Rattle.std.specs.List.{position, position_or_len}

or_len : (n l : ℕ) → n ≤ l → unwrap_or (cond (nat_lt n l) (Some n) None) l ≡ n
or_len n l h = grind (arith, nat_tests)

-- the place, or the length
pub place_is : {X : Type 0} (test : X → Bool) (xs : List X) → unwrap_or (position test xs) (length xs) ≡ position_or_len test xs
place_is test xs = or_len (position_or_len test xs) (length xs) (prefix_len-le-length (λ y. not (test y)) xs)

flipped : (b : Bool) (n : ℕ) → cond (not b) (1 + n) 0 ≡ cond b 0 (1 + n)
flipped true n = refl
flipped false n = refl

pub place_step : {X : Type 0} (test : X → Bool) (xs : List X) (i : ℕ) (d : X) → i < length xs → position_or_len test (drop i xs) ≡ cond (test (get_or xs i d)) 0 (1 + position_or_len test (drop (i + 1) xs))
place_step test xs i d h = ap (position_or_len test) (drop_more xs i d h) ∙ flipped (test (get_or xs i d)) (position_or_len test (drop (i + 1) xs))
