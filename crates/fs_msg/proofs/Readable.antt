-- What passes a test that everything passes.
use Rattle.std.proofs.Common.{◌≡◌, Bool, true, List, [], ◌∷◌, refl}
use Rattle.std.specs.Prelude.{◌&&◌, Option, Some, None}
use Rattle.std.specs.List.{list_all}
use Rattle.fs_wire.specs.Readable.{option_all, pair_all}

with_end : {B : Type 0} (o : Option B) (rest : Bool) → rest ≡ true → (option_all (λ _. true) o && rest) ≡ true
with_end None rest h = h
with_end (Some x) rest h = h

-- numbers, each with its end or with none
pub always_rows : {A B : Type 0} (rows : List (A × Option B)) → list_all (pair_all (λ _. true) (option_all (λ _. true))) rows ≡ true
always_rows [] = refl
always_rows (r ∷ rows) = with_end r.1 _ (always_rows rows)
