-- The files with handles, marked.
use Rattle.std.specs.Prelude.{◌≡◌, ◌⊎◌, ℕ, Bool, true, false, List, [], ◌∷◌, map, if◌then◌else◌, is_some, Some}
use Rattle.std.specs.FinMap.{FinMap, get, remove}
use Rattle.std.specs.Ordering.{nat_cmp}
use Rattle.std.specs.Cmp.Lexicographic.{slice_cmp}
use Rattle.fs_ident.specs.In.{In}
use Rattle.fs_ident.specs.Ordered.{Keyed}
use Rattle.fs_field.specs.After.{changed_file}
use Rattle.fs_field.specs.declared.effect.Effect.{Effect}
use Rattle.fs_field.specs.declared.effect.Effect.TheVariants.{AddHandle}
use Rattle.fs_record.specs.declared.marks.Mark.{Mark}
use Rattle.fs_record.specs.declared.record.Record.{Record}
use Rattle.fs_record.specs.Records.{RecordMap, node_of}
use Rattle.fs_record.specs.Opens.{is_open}

abbrev pub Marks : Type 0
Marks = FinMap (slice_cmp nat_cmp) Mark

abbrev pub mark : Mark
mark = record {}

abbrev pub is_open_at : RecordMap → List ℕ → Bool
is_open_at m f = is_open (node_of (get m f))

-- each open file is marked, and beside them at most these files
pub record MarkOpen (files : List (List ℕ)) (marks : Marks) (m : RecordMap) : Type 0 where
  pub all : (f : List ℕ) → is_open_at m f ≡ true → is_some (get marks f) ≡ true
  pub alone : (f : List ℕ) → is_some (get marks f) ≡ true → (is_open_at m f ≡ true) ⊎ In f files

-- the mark of the file taken away, unless the file is open
abbrev pub settled : RecordMap → Marks → List ℕ → Marks
settled m marks file = if is_open_at m file then marks else remove marks file

-- whatever was marked still is, and beside it at most these files are
pub record AreBetween (old new : Marks) (files : List (List ℕ)) : Type 0 where
  pub still : (f : List ℕ) → is_some (get old f) ≡ true → is_some (get new f) ≡ true
  pub only : (f : List ℕ) → is_some (get new f) ≡ true → (is_some (get old f) ≡ true) ⊎ In f files

-- each of these files is marked
abbrev pub AreMarked : List (List ℕ) → Marks → Type 0
AreMarked files marks = (f : List ℕ) → In f files → is_some (get marks f) ≡ true

-- only such an effect opens a file
abbrev pub opens : Effect → Bool
opens (AddHandle file session h modes) = true
opens e = false

-- those of these records that are open
abbrev pub open_among : Keyed Record → List (List ℕ)
open_among [] = []
open_among (e ∷ es) = if is_open (Some e.1.node) then e.0 ∷ open_among es else open_among es

-- the files that the effects change, and those that they open
abbrev pub changed_files : List Effect → List (List ℕ)
changed_files es = map changed_file es

abbrev pub opened_by : List Effect → List (List ℕ)
opened_by [] = []
opened_by (e ∷ es) = if opens e then changed_file e ∷ opened_by es else opened_by es
