-- What the run of a made schedule comes to.
use Rattle.std.specs.Prelude.{ℕ, List, [], ◌∷◌, ◌++◌, length, flat_map}
use Rattle.std.specs.FinMap.{len}
use Rattle.fs_msg.specs.declared.end.End.{End}
use Rattle.fs_msg.specs.declared.end.End.TheVariants.{Ended}
use Rattle.fs_msg.specs.declared.note.Note.{Note}
use Rattle.fs_msg.specs.declared.note.Note.TheVariants.{Server}
use Rattle.fs_msg.specs.declared.server_note.ServerNote.{ServerNote}
use Rattle.fs_msg.specs.declared.server_note.ServerNote.TheVariants.{Admits}
use Rattle.fs_report.specs.Generated.{generated_line}
use Rattle.fs_schedule.specs.declared.outcome.Outcome.{Outcome}
use Rattle.fs_world.specs.World.{Run, journal_of, space_of}

-- the number of the entry one of whose leases had ended, where that was why a server admitted no more
abbrev pub ended_in : End → List ℕ
ended_in (Ended n lease until now) = n ∷ []
ended_in end = []

-- the numbers of the entries of a log that a server refused: the one whose lease had ended, and the gaps behind it
abbrev pub refused_by : Note → List ℕ
refused_by (Server (Admits count end gaps)) = ended_in end ++ gaps
refused_by _ = []

-- the same of all events, in order
abbrev pub refused_in : List Outcome → List ℕ
refused_in outcomes = flat_map (λ (o : Outcome). flat_map refused_by o.notes) outcomes

-- the line of the run of what was made from this number
abbrev pub generated_text : ℕ → Run → List ℕ
generated_text n r =
    generated_line n (length r.outcomes) (length (journal_of r.world))
    (length (refused_in r.outcomes)) (len (space_of r.world))
