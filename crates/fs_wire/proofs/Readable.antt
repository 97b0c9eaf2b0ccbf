-- What passes a test that everything passes.
use Rattle.std.proofs.Common.{◌≡◌, true, List, [], ◌∷◌, Option, Some, None, refl}
use Rattle.std.specs.List.{list_all}
use Rattle.fs_wire.specs.Readable.{option_all, pair_all}

-- where every value passes, so do several
pub always_list : {A : Type 0} (xs : List A) → list_all (λ _. true) xs ≡ true
always_list [] = refl
always_list (x ∷ xs) = always_list xs

pub always_option : {A : Type 0} (o : Option A) → option_all (λ _. true) o ≡ true
always_option None = refl
always_option (Some x) = refl

pub always_pair : {A B : Type 0} (o : Option (A × B)) → option_all (pair_all (λ _. true) (λ _. true)) o ≡ true
always_pair None = refl
always_pair (Some p) = refl

pub always_pairs : {A B : Type 0} (pairs : List (A × B)) → list_all (pair_all (λ _. true) (λ _. true)) pairs ≡ true
always_pairs [] = refl
always_pairs (p ∷ pairs) = always_pairs pairs
