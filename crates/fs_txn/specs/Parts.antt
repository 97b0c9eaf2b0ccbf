-- What a led operation asks of the servers of its files.
use Rattle.std.specs.Prelude.{ℕ, ◌||◌, List, [], ◌∷◌, ◌++◌, map, Option, Some, None, if◌then◌else◌}
use Rattle.std.specs.List.{filter, list_any}
use Rattle.fs_ident.specs.Ident.{same}
use Rattle.fs_field.specs.Field.{file_of}
use Rattle.fs_field.specs.declared.used.Part.{Part}
use Rattle.fs_field.specs.declared.used.Use.{Use}
use Rattle.fs_model.specs.Asking.{home_of}
use Rattle.fs_model.specs.declared.op.Op.{Op}
use Rattle.fs_model.specs.declared.op.Op.TheVariants as op
use Rattle.fs_txn.specs.declared.mode.Mode2.{Mode2}
use Rattle.fs_txn.specs.declared.mode.Mode2.TheVariants.{Freeze}

-- the directory that loses a name: of a rename the one from which the file goes
abbrev pub source_of : Op → List ℕ
source_of (op.Rename sdir sname ddir dname) = sdir
source_of o = home_of o

-- one file more behind the others, unless it is there
abbrev pub with_file : List ℕ → List (List ℕ) → List (List ℕ)
with_file file files = if list_any (λ f. same f file) files then files else files ++ file ∷ []

-- the files that the operation changes, each once: its home, the directory that loses a name, and the file that goes or moves
abbrev pub led_files : Op → List ℕ → List (List ℕ)
led_files o file = with_file file (with_file (source_of o) (home_of o ∷ []))

-- the leases on fields of the file
abbrev pub uses_on : List ℕ → List Use → List Use
uses_on at uses = filter (λ (u : Use). same (file_of u.field) at) uses

-- in a transaction that freezes, no path may go over the file where it goes from, nor where it is
abbrev pub freeze_at : Mode2 → Op → List ℕ → List ℕ → Option (List ℕ)
freeze_at Freeze o file at = if same at (source_of o) || same at file then Some file else None
freeze_at mode o file at = None

-- what is asked of the server of the file `at`
abbrev pub part_at : Mode2 → Op → List ℕ → List Use → List ℕ → Part
part_at mode o file uses at = record { file = at; uses = uses_on at uses; freeze = freeze_at mode o file at }

-- the parts of the operation
abbrev pub parts_of : Op → List ℕ → List Use → Mode2 → List Part
parts_of o file uses mode = map (part_at mode o file uses) (led_files o file)
