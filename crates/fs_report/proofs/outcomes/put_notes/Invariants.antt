use Rattle.std.proofs.Common.{◌≡◌, ◌++◌, take}
use Rattle.std.specs.Prelude.{codes, flat_map}
use Rattle.fs_report.specs.Notes.{note_text}
use Rattle.fs_report.proofs.outcomes.put_notes.Given as goal

abbrev pub invariant-loop-note : goal.invariant-loop-note
invariant-loop-note l = l.out.items ≡ l.initial.out.items ++ flat_map (λ m. codes "; " ++ note_text m) (take l.note-index l.rest)
