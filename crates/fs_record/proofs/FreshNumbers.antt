-- The search for a free number.
use Rattle.std.proofs.Common.{◌≡◌, ◌==◌, ℕ, zero, suc, ◌+◌, ◌-◌, ◌^◌, ◌<◌, ◌≤◌, List, length, arith, cond, refl, ap, ◌∙◌}
use Rattle.std.specs.Prelude.{Some, None}
use Rattle.std.specs.FinMap.{get}
use Rattle.fs_record.specs.Fresh.{is_borne, least_free, fresh_number}
use Rattle.fs_record.specs.Records.{RecordMap, next_of}

pub free_step : (n k : ℕ) (borne : List ℕ) → k < n → least_free (n - k) k borne ≡ cond (is_borne borne k) (least_free (n - (k + 1)) (k + 1) borne) (Some k)
free_step n k borne lt =
    let e : n - k ≡ suc (n - (k + 1)) = omega arith in
    rw e

pub free_end : (n k : ℕ) (borne : List ℕ) → n ≤ k → least_free (n - k) k borne ≡ None
free_end n k borne le =
    let e : n - k ≡ 0 = omega arith in
    rw e

-- the search tells apart which numbers are borne, and not how they stand
pub same_least : (n k : ℕ) (a b : List ℕ) → ((j : ℕ) → is_borne a j ≡ is_borne b j) → least_free n k a ≡ least_free n k b
same_least zero k a b h = refl
same_least (suc n) k a b h = ap (λ t. cond t (least_free n (k + 1) a) (Some k)) (h k) ∙ ap (λ o. cond (is_borne b k) o (Some k)) (same_least n (k + 1) a b h)

pub same_number : (m : RecordMap) (dir a b : List ℕ) → ((j : ℕ) → is_borne a j ≡ is_borne b j) → fresh_number m dir a ≡ fresh_number m dir b
same_number m dir a b h = ap (cond (length dir == 32) None) (same_least (2 ^ 32 - next_of (get m dir)) (next_of (get m dir)) a b h)
