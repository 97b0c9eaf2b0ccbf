-- Numbers in order, each once.
use Rattle.std.proofs.Common.{◌≡◌, ◌∙◌, ℕ, Bool, true, false, List, [], ◌∷◌, refl, ap, sym, cond}
use Rattle.std.specs.Prelude.{◌==◌, ◌||◌}
use Rattle.std.specs.List.{dedup, dedup_from}
use Rattle.fs_rows.proofs.Bearing.{bears}

absorbed : (a b : Bool) → (a || b) ≡ (a || (a || b))
absorbed true b = refl
absorbed false b = refl

once_from : (same : ℕ → ℕ → Bool) → ((x y : ℕ) → same x y ≡ true → x ≡ y) → (k x : ℕ) (xs : List ℕ) → bears k (dedup_from same x xs) ≡ bears k (x ∷ xs)
once_from same is k x [] = refl
once_from same is k x (y ∷ ys) = elim (same y x) as (λ b. same y x ≡ b → bears k (cond b (dedup_from same x ys) (x ∷ dedup_from same y ys)) ≡ bears k (x ∷ y ∷ ys)) [
  | true ↦ λ t. once_from same is k x ys ∙ absorbed (x == k) (bears k ys) ∙ ap (λ z. (x == k) || ((z == k) || bears k ys)) (sym (is y x t))
  | false ↦ λ t. ap (λ b. (x == k) || b) (once_from same is k y ys)
] refl

-- each number is still told
pub told_once : (same : ℕ → ℕ → Bool) → ((x y : ℕ) → same x y ≡ true → x ≡ y) → (k : ℕ) (xs : List ℕ) → bears k (dedup same xs) ≡ bears k xs
told_once same is k [] = refl
told_once same is k (x ∷ xs) = once_from same is k x xs
