use Rattle.std.proofs.Common.{drop}
use Rattle.fs_ident.specs.Maps.{map_of}
use Rattle.fs_record.specs.Marks.{MarkOpen, changed_files}
use Rattle.fs_record.proofs.marks.settle_changed.Given as goal

abbrev pub invariant-loop-e : goal.invariant-loop-e
invariant-loop-e l = MarkOpen (changed_files (drop l.e-index l.effects)) (map_of l.marks) (map_of l.records)
