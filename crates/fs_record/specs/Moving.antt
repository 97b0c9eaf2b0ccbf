-- Records that go to another server, and records that come from one.
use Rattle.std.specs.Prelude.{ℕ, ◌≤◌, ◌^◌, Bool, true, not, ◌&&◌, List, [], ◌∷◌, is_some}
use Rattle.std.specs.List.{filter, list_all, list_any}
use Rattle.std.specs.FinMap.{get, insert, remove, entries, from_entries}
use Rattle.fs_ident.specs.Ident.{same}
use Rattle.fs_ident.specs.In.{In}
use Rattle.fs_ident.specs.Ordered.{Keyed}
use Rattle.fs_map.specs.Map.{gives}
use Rattle.fs_model.specs.Namespace.{IsInOrder}
use Rattle.fs_record.specs.declared.record.Record.{Record}
use Rattle.fs_record.specs.Records.{RecordMap, IsRecord}

-- ## What goes

-- the records of the files that the piece gives, in order of identifier
abbrev pub records_given : List ℕ → Keyed Bool → RecordMap → Keyed Record
records_given prefix given m = filter (λ e. gives prefix given e.0) (entries m)

-- the records of all others
abbrev pub records_left : List ℕ → Keyed Bool → RecordMap → RecordMap
records_left prefix given m = from_entries (filter (λ e. not (gives prefix given e.0)) (entries m))

-- the records without those of these files
abbrev pub records_without : List (List ℕ) → RecordMap → RecordMap
records_without [] m = m
records_without (file ∷ files) m = records_without files (remove m file)

-- ## What comes

-- each of the files has this record now
abbrev pub with_records : Keyed Record → RecordMap → RecordMap
with_records [] m = m
with_records (e ∷ es) m = with_records es (insert m e.0 e.1)

-- no file stands twice
abbrev pub are_distinct : Keyed Record → Bool
are_distinct [] = true
are_distinct (e ∷ es) = not (list_any (λ f. same f.0 e.0) es) && are_distinct es

-- none has a record
abbrev pub are_absent : RecordMap → Keyed Record → Bool
are_absent m rs = list_all (λ e. not (is_some (get m e.0))) rs

-- each has a next number from 1 to 2^32
abbrev pub AreNumbersLeft : Keyed Record → Type 0
AreNumbersLeft rs = (e : List ℕ × Record) → In e rs → (1 ≤ e.1.next) × (e.1.next ≤ 2 ^ 32)

-- the children and the handles of each are in order
abbrev pub AreInOrder : Keyed Record → Type 0
AreInOrder rs = (e : List ℕ × Record) → In e rs → IsInOrder e.1.node

-- each is a record
abbrev pub AreEachRecords : Keyed Record → Type 0
AreEachRecords rs = (e : List ℕ × Record) → In e rs → IsRecord e.1
