-- The identifiers and names of made schedules are such.
use Rattle.std.proofs.Common.{◌≡◌, ℕ, suc, zero, ◌+◌, ◌<◌, ◌≤◌, ◌^◌, List, [], ◌∷◌, refl, arith}
use Rattle.std.specs.List.{All}
use Rattle.std.proofs.lemmas.List.Elements.{All-nil, All-push}
use Rattle.fs_ident.specs.Ident.{IsId, IsNumber}
use Rattle.fs_ident.specs.Name.{IsName}
use Rattle.fs_schedule.specs.Made.{dir_name, file_name}

number_valid : (n : ℕ) → 1 ≤ n → n < 2 ^ 32 → IsNumber n
number_valid n positive fits = record { positive = positive; fits = fits }

one_valid : (n : ℕ) → IsNumber n → All IsNumber (n ∷ [])
one_valid n h = All-push IsNumber [] n (All-nil IsNumber) h

pub root_valid : IsId []
root_valid = record { few = omega arith; each = All-nil IsNumber }

pub dir_valid : (dir : ℕ) → 1 ≤ dir → dir < 2 ^ 32 → IsId (dir ∷ [])
dir_valid dir some fits = record { few = omega arith; each = one_valid dir (number_valid dir some fits) }

pub file_valid : (dir file : ℕ) → 1 ≤ dir → dir < 2 ^ 32 → 1 ≤ file → file < 2 ^ 32 → IsId (dir ∷ file ∷ [])
file_valid dir file some fits one less = record {
  few = omega arith;
  each = All-push IsNumber (dir ∷ []) file (one_valid dir (number_valid dir some fits)) (number_valid file one less);
}

-- a letter and a digit
pub dir_named : (k : ℕ) → k ≤ 9 → IsName (dir_name k)
dir_named zero h = record { some = omega arith; few = omega arith; good = refl; undotted = refl }
dir_named (suc zero) h = record { some = omega arith; few = omega arith; good = refl; undotted = refl }
dir_named (suc (suc zero)) h = record { some = omega arith; few = omega arith; good = refl; undotted = refl }
dir_named (suc (suc (suc zero))) h = record { some = omega arith; few = omega arith; good = refl; undotted = refl }
dir_named (suc (suc (suc (suc zero)))) h = record { some = omega arith; few = omega arith; good = refl; undotted = refl }
dir_named (suc (suc (suc (suc (suc zero))))) h = record { some = omega arith; few = omega arith; good = refl; undotted = refl }
dir_named (suc (suc (suc (suc (suc (suc zero)))))) h = record { some = omega arith; few = omega arith; good = refl; undotted = refl }
dir_named (suc (suc (suc (suc (suc (suc (suc zero))))))) h = record { some = omega arith; few = omega arith; good = refl; undotted = refl }
dir_named (suc (suc (suc (suc (suc (suc (suc (suc zero)))))))) h = record { some = omega arith; few = omega arith; good = refl; undotted = refl }
dir_named (suc (suc (suc (suc (suc (suc (suc (suc (suc zero))))))))) h = record { some = omega arith; few = omega arith; good = refl; undotted = refl }
dir_named (suc (suc (suc (suc (suc (suc (suc (suc (suc (suc k)))))))))) h = absurd (omega arith)

pub file_named : (k : ℕ) → k ≤ 9 → IsName (file_name k)
file_named zero h = record { some = omega arith; few = omega arith; good = refl; undotted = refl }
file_named (suc zero) h = record { some = omega arith; few = omega arith; good = refl; undotted = refl }
file_named (suc (suc zero)) h = record { some = omega arith; few = omega arith; good = refl; undotted = refl }
file_named (suc (suc (suc zero))) h = record { some = omega arith; few = omega arith; good = refl; undotted = refl }
file_named (suc (suc (suc (suc zero)))) h = record { some = omega arith; few = omega arith; good = refl; undotted = refl }
file_named (suc (suc (suc (suc (suc zero))))) h = record { some = omega arith; few = omega arith; good = refl; undotted = refl }
file_named (suc (suc (suc (suc (suc (suc zero)))))) h = record { some = omega arith; few = omega arith; good = refl; undotted = refl }
file_named (suc (suc (suc (suc (suc (suc (suc zero))))))) h = record { some = omega arith; few = omega arith; good = refl; undotted = refl }
file_named (suc (suc (suc (suc (suc (suc (suc (suc zero)))))))) h = record { some = omega arith; few = omega arith; good = refl; undotted = refl }
file_named (suc (suc (suc (suc (suc (suc (suc (suc (suc zero))))))))) h = record { some = omega arith; few = omega arith; good = refl; undotted = refl }
file_named (suc (suc (suc (suc (suc (suc (suc (suc (suc (suc k)))))))))) h = absurd (omega arith)
