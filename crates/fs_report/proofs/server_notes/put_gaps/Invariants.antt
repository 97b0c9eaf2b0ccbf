use Rattle.std.proofs.Common.{◌≡◌, ◌++◌, take}
use Rattle.fs_report.specs.Notes.{gaps_text}
use Rattle.fs_report.proofs.server_notes.put_gaps.Given as goal

abbrev pub invariant-loop-n : goal.invariant-loop-n
invariant-loop-n l = l.out.items ≡ l.initial.out.items ++ gaps_text (take l.n-index l.gaps)
