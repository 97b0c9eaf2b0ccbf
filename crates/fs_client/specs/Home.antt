-- Where an entry of the log is handed in.
use Rattle.std.specs.Prelude.{ℕ, List, [], ◌∷◌, Option, Some, None}
use Rattle.fs_model.specs.Asking.{home_of}
use Rattle.fs_msg.specs.declared.entry.Entry.{Entry}

-- the home of the first entry
abbrev pub first_home : List Entry → Option (List ℕ)
first_home [] = None
first_home (e ∷ es) = Some (home_of e.op)
