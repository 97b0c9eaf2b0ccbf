-- The numbers of the rows on each field, by file and then by what of the file.
use Rattle.std.specs.Prelude.{⊤, ◌≡◌, ◌==◌, length, ℕ, not, ◌++◌, ◌∷◌, Bool, true, false, ◌&&◌, List, [], Option, Some, None, if◌then◌else◌}
use Rattle.std.specs.Borrow.{Bor}
use Rattle.std.specs.BTreeMap.{BTreeMap, btree_map_len}
use Rattle.std.specs.List.{list_any, filter}
use Rattle.std.specs.FinMap.{get}
use Rattle.fs_ident.specs.Ident.{same}
use Rattle.fs_ident.specs.Maps.{map_of}
use Rattle.fs_ident.specs.declared.actor.LeaseNo.{LeaseNo}
use Rattle.fs_field.specs.declared.field.Field.{Field}
use Rattle.fs_field.specs.declared.field.Field.TheVariants.{Life, Child, Names, Info, Own, SelfW, Other}
use Rattle.fs_field.specs.declared.row.Row.{Row}
use Rattle.fs_field.specs.Field.{file_of, same_field, same_mode}
use Rattle.fs_field.specs.Table.{same_no, has_no, is_ordered}
use Rattle.fs_rows.specs.declared.index.OnFile.{OnFile}
use Rattle.fs_rows.specs.declared.index.FieldIndex.{FieldIndex}

-- nothing is listed where there is no list
abbrev pub listed : Option (List LeaseNo) → List LeaseNo
listed None = []
listed (Some numbers) = numbers

-- the numbers on the field of one file
abbrev pub numbers_in : OnFile → Field → List LeaseNo
numbers_in o (Life f) = o.life
numbers_in o (Child f name) = listed (get (map_of o.children) name)
numbers_in o (Names f) = o.names
numbers_in o (Info f) = o.info
numbers_in o (Own f) = o.own
numbers_in o (SelfW f m) = []
numbers_in o (Other f m) = []

-- the numbers on the children of a directory, by name
abbrev pub children_of : OnFile → BTreeMap (List ℕ) (List LeaseNo)
children_of o = o.children

-- nothing where no row is on the file
abbrev pub numbers_at : Option OnFile → Field → List LeaseNo
numbers_at None field = []
numbers_at (Some o) field = numbers_in o field

-- the numbers on the field, by file
abbrev pub numbers_of : BTreeMap (List ℕ) OnFile → Field → List LeaseNo
numbers_of files field = numbers_at (get (map_of files) (file_of field)) field

-- the numbers on the field
abbrev pub numbers_on : FieldIndex → Field → List LeaseNo
numbers_on index field = numbers_of index.files field

-- no number is on any field of the file
abbrev pub has_none : OnFile → Bool
has_none o =
    (((length o.life == 0) && (length o.names == 0)) && ((length o.info == 0) && (length o.own == 0)))
    && (btree_map_len o.children == 0)

-- the two fields are one, where their files are
abbrev pub same_fact : Field → Field → Bool
same_fact (Life a) (Life b) = true
same_fact (Child a m) (Child b n) = same m n
same_fact (Names a) (Names b) = true
same_fact (Info a) (Info b) = true
same_fact (Own a) (Own b) = true
same_fact (SelfW a m) (SelfW b n) = same_mode m n
same_fact (Other a m) (Other b n) = same_mode m n
same_fact a b = false

-- the numbers on this field change so, and those on others do not
abbrev pub ChangesIn : (List LeaseNo → List LeaseNo) → Field → OnFile → OnFile → Type 0
ChangesIn change field old new = (f : Field) → numbers_in new f ≡ if same_fact f field then change (numbers_in old f) else numbers_in old f

abbrev pub ChangesAt : (List LeaseNo → List LeaseNo) → List ℕ → BTreeMap (List ℕ) (List LeaseNo) → BTreeMap (List ℕ) (List LeaseNo) → Type 0
ChangesAt change name old new =
    (q : List ℕ) → listed (get (map_of new) q)
    ≡ if same q name then change (listed (get (map_of old) q)) else listed (get (map_of old) q)

abbrev pub ChangesOf : (List LeaseNo → List LeaseNo) → Field → BTreeMap (List ℕ) OnFile → BTreeMap (List ℕ) OnFile → Type 0
ChangesOf change field old new = (f : Field) → numbers_of new f ≡ if same_field f field then change (numbers_of old f) else numbers_of old f

-- one number more, and all but one
abbrev pub and_number : LeaseNo → List LeaseNo → List LeaseNo
and_number number numbers = numbers ++ number ∷ []

abbrev pub but_number : LeaseNo → List LeaseNo → List LeaseNo
but_number number numbers = filter (λ n. not (same_no n number)) numbers

-- the number is one of these
abbrev pub has_number : LeaseNo → List LeaseNo → Bool
has_number number numbers = list_any (λ n. same_no n number) numbers

-- it is listed under one of the names
abbrev pub is_listed : LeaseNo → List (List ℕ × List LeaseNo) → Bool
is_listed number named = list_any (λ e. has_number number e.1) named

-- a row of this number is on the field
abbrev pub has_row_on : Field → LeaseNo → List Row → Bool
has_row_on field number rows = list_any (λ r. has_no number r && same_field r.field field) rows

-- on each field stand the numbers of the rows on it
abbrev pub AreNumbersOf : BTreeMap (List ℕ) OnFile → List Row → Type 0
AreNumbersOf files rows = (field : Field) (number : LeaseNo) → has_number number (numbers_of files field) ≡ has_row_on field number rows

-- where the index is whole
abbrev pub IsIndexOf : FieldIndex → List Row → Type 0
IsIndexOf index rows = index.whole ≡ true → AreNumbersOf index.files rows

-- an index that is whole became so by one number more
abbrev pub IsNoted : LeaseNo → Field → FieldIndex → FieldIndex → Type 0
IsNoted number field old new = new.whole ≡ true → (old.whole ≡ true) × ChangesOf (and_number number) field old.files new.files

-- the number of a row that does not stay was taken off its field
abbrev pub IsPassed : Bool → Row → FieldIndex → FieldIndex → Type 0
IsPassed true row old new = new ≡ old
IsPassed false row old new = (new.whole ≡ old.whole) × ChangesOf (but_number row.no) row.field old.files new.files

-- what is read through: no index, or one of these rows, which are in order
abbrev pub IsSeen : Option (Bor FieldIndex) → List Row → Type 0
IsSeen None rows = ⊤
IsSeen (Some index) rows = IsIndexOf index.now rows × (is_ordered rows ≡ true)
