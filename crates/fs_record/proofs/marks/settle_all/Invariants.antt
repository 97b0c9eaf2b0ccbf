use Rattle.std.proofs.Common.{drop}
use Rattle.fs_ident.specs.Maps.{map_of}
use Rattle.fs_record.specs.Marks.{MarkOpen}
use Rattle.fs_record.proofs.marks.settle_all.Given as goal

abbrev pub invariant-loop-file : goal.invariant-loop-file
invariant-loop-file l = MarkOpen ((drop l.file-index l.files)) (map_of l.marks) (map_of l.records)
