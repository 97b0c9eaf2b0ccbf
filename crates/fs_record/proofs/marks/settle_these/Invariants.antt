use Rattle.std.proofs.Common.{drop}
use Rattle.fs_ident.specs.Maps.{map_of}
use Rattle.std.specs.Map.{keys_of}
use Rattle.fs_record.specs.Marks.{MarkOpen}
use Rattle.fs_record.proofs.marks.settle_these.Given as goal

abbrev pub invariant-loop-file : goal.invariant-loop-file
invariant-loop-file l = MarkOpen (keys_of (drop l.file-index l.moved)) (map_of l.marks) (map_of l.records)
