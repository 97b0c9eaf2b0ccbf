-- Laws of single words.
use Rattle.std.proofs.Common.{◌≡◌, ℕ, ◌<◌, ◌≤◌, ◌^◌, List, arith}
use Rattle.std.specs.Fmt.{decimal}
use Rattle.std.proofs.lemmas.Fmt.{decimal_injective}
use Rattle.fs_schedule.specs.Words.{Bare, Quoted}

pub bare_one : (xs ys : List ℕ) → Bare xs ≡ Bare ys → xs ≡ ys
bare_one xs ys e = cc

pub quoted_one : (xs ys : List ℕ) → Quoted xs ≡ Quoted ys → xs ≡ ys
quoted_one xs ys e = cc

pub too_great : (most m n : ℕ) → most < 2 ^ 64 → m < 2 ^ 64 → most < m → n ≤ most → decimal m ≡ decimal n → ⊥
too_great most m n fits small gt le e = let same : m ≡ n = decimal_injective m n small (omega arith) e in omega arith

pub not_below : (servers k n : ℕ) → servers ≤ k → k < 2 ^ 64 → (n < servers) × (n < 2 ^ 8) → decimal k ≡ decimal n → ⊥
not_below servers k n ge small is e = let same : k ≡ n = decimal_injective k n small (omega (arith, is.1)) e in omega (arith, is.0)

pub not_zero : (most n : ℕ) → most < 2 ^ 64 → (1 ≤ n) × (n ≤ most) → decimal 0 ≡ decimal n → ⊥
not_zero most n small is e = let same : 0 ≡ n = decimal_injective 0 n (omega arith) (omega (arith, is.1)) e in omega (arith, is.0)
