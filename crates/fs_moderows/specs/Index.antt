-- The numbers of the rows on each file.
use Rattle.std.specs.Prelude.{⊤, ◌≡◌, ℕ, Bool, true, false, List, map, Option, Some, None, if◌then◌else◌}
use Rattle.std.specs.BTreeMap.{BTreeMap}
use Rattle.std.specs.Borrow.{Bor}
use Rattle.std.specs.FinMap.{get}
use Rattle.std.specs.List.{filter}
use Rattle.fs_ident.specs.Ident.{same}
use Rattle.fs_ident.specs.Maps.{map_of}
use Rattle.fs_ident.specs.Ordered.{put_before}
use Rattle.fs_ident.specs.declared.actor.LeaseNo.{LeaseNo}
use Rattle.fs_field.specs.declared.row.Row.{Row}
use Rattle.fs_field.specs.Field.{file_of}
use Rattle.fs_field.specs.Table.{no_before, is_ordered}
use Rattle.fs_rows.specs.Index.{listed, ChangesAt, but_number}
use Rattle.fs_moderows.specs.declared.index.FileIndex.{FileIndex}

-- the row is on a field of the file
abbrev pub is_on : List ℕ → Row → Bool
is_on file row = same (file_of row.field) file

-- the numbers of the rows on the file, in order
abbrev pub numbers_on : List ℕ → List Row → List LeaseNo
numbers_on file rows = map (λ r. r.no) (filter (is_on file) rows)

-- the numbers that are listed of the file
abbrev pub numbers_of : BTreeMap (List ℕ) (List LeaseNo) → List ℕ → List LeaseNo
numbers_of files file = listed (get (map_of files) file)

-- where the index is whole it lists of each file the numbers of the rows on it
abbrev pub IsIndexOf : FileIndex → List Row → Type 0
IsIndexOf index rows = index.whole ≡ true → (file : List ℕ) → numbers_of index.files file ≡ numbers_on file rows

-- one number more, before the first that is greater
abbrev pub with_number : LeaseNo → List LeaseNo → List LeaseNo
with_number number numbers = put_before (λ n. no_before number n) number numbers

-- an index that is whole became so by one number more
abbrev pub IsNoted : LeaseNo → List ℕ → FileIndex → FileIndex → Type 0
IsNoted number file old new = new.whole ≡ true → (old.whole ≡ true) × ChangesAt (with_number number) file old.files new.files

-- the number of a row that does not stay was taken off its file
abbrev pub IsPassed : Bool → Row → FileIndex → FileIndex → Type 0
IsPassed true row old new = new ≡ old
IsPassed false row old new = (new.whole ≡ old.whole) × ChangesAt (but_number row.no) (file_of row.field) old.files new.files

-- what is read through: no index, or one of these rows, which are in order
abbrev pub IsSeen : Option (Bor FileIndex) → List Row → Type 0
IsSeen None rows = ⊤
IsSeen (Some index) rows = IsIndexOf index.now rows × (is_ordered rows ≡ true)
