-- What goes to another server, by a walk in order, and what came and is taken away again.
use Rattle.std.specs.Prelude.{ℕ, Bool, List, [], ◌∷◌, Option, Some, None, if◌then◌else◌}
use Rattle.std.specs.FinMap.{get, remove}
use Rattle.fs_ident.specs.Ordered.{Keyed}
use Rattle.fs_map.specs.Map.{begins, gives}
use Rattle.fs_record.specs.declared.record.Record.{Record}
use Rattle.fs_record.specs.Records.{RecordMap}

-- of records from the prefix on, in order, those that the piece gives: the first that does not begin with it ends them
abbrev pub given_from : List ℕ → Keyed Bool → Keyed Record → Keyed Record
given_from prefix given [] = []
given_from prefix given (e ∷ es) =
    if begins prefix e.0 then (if gives prefix given e.0 then e ∷ given_from prefix given es else given_from prefix given es)
    else []

-- the records without those of these files, the last taken away first
abbrev pub taken_back : List (List ℕ) → RecordMap → RecordMap
taken_back [] m = m
taken_back (file ∷ files) m = remove (taken_back files m) file

-- the file with its record, if it has one, and then the others
abbrev pub with_file : List ℕ → Option Record → Keyed Record → Keyed Record
with_file file None rest = rest
with_file file (Some r) rest = (file, r) ∷ rest

-- the records of these files, each taken out in turn
abbrev pub taken_out : List (List ℕ) → RecordMap → Keyed Record
taken_out [] m = []
taken_out (file ∷ files) m = with_file file (get m file) (taken_out files (remove m file))
