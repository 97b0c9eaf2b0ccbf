-- The numbers that a directory gives to new files.
use Rattle.std.specs.Prelude.{◌≡◌, ℕ, zero, suc, ◌+◌, ◌-◌, ◌<◌, ◌≤◌, ◌^◌, Bool, true, false, ◌==◌, List, length, Option, Some, None, if◌then◌else◌}
use Rattle.std.specs.List.{list_any}
use Rattle.std.specs.FinMap.{get, insert}
use Rattle.fs_ident.specs.declared.kind.Kind.{Kind}
use Rattle.fs_ident.specs.declared.kind.Kind.TheVariants.{File, Dir}
use Rattle.fs_model.specs.Sound.{kind_of}
use Rattle.fs_record.specs.declared.record.Record.{Record}
use Rattle.fs_record.specs.Records.{RecordMap, node_of, next_of}

abbrev pub is_borne : List ℕ → ℕ → Bool
is_borne borne k = list_any (λ b. b == k) borne

-- the least of so many numbers from k on that is not borne
abbrev pub least_free : ℕ → ℕ → List ℕ → Option ℕ
least_free zero k borne = None
least_free (suc n) k borne = if is_borne borne k then least_free n (k + 1) borne else Some k

-- the least number from `next` on, below 2^32, that is not borne
abbrev pub free_from : ℕ → List ℕ → Option ℕ
free_from next borne = least_free (2 ^ 32 - next) next borne

-- the number is the least from `next` on that is not borne, and is below 2^32
pub record IsLeastFree (next : ℕ) (borne : List ℕ) (k : ℕ) : Type 0 where
  pub from : next ≤ k
  pub below : k < 2 ^ 32
  pub free : is_borne borne k ≡ false
  pub least : (j : ℕ) → next ≤ j → j < k → is_borne borne j ≡ true

-- the number of a new file in the directory, if it can have one
abbrev pub fresh_number : RecordMap → List ℕ → List ℕ → Option ℕ
fresh_number m dir borne = if length dir == 32 then None else free_from (next_of (get m dir)) borne

-- a directory that has a record
abbrev pub is_dir : Option Kind → Bool
is_dir None = false
is_dir (Some File) = false
is_dir (Some Dir) = true

abbrev pub is_directory : RecordMap → List ℕ → Bool
is_directory m dir = is_dir (kind_of (node_of (get m dir)))

-- the records where the file's next number is this
abbrev pub with_next : RecordMap → List ℕ → ℕ → Option Record → RecordMap
with_next m dir next None = m
with_next m dir next (Some r) = insert m dir (record r { next = next })

-- the records after the directory gave the number
abbrev pub records_after_gift : RecordMap → List ℕ → Option ℕ → RecordMap
records_after_gift m dir None = m
records_after_gift m dir (Some k) = with_next m dir (k + 1) (get m dir)
