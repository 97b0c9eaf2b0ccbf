use Rattle.std.proofs.Common.{take}
use Rattle.fs_rows.specs.Index.{IsIndexOf}
use Rattle.fs_rows.proofs.index.FieldIndex.of.Given as goal

abbrev pub invariant-loop-row : goal.invariant-loop-row
invariant-loop-row l = IsIndexOf l.index (take l.row-index l.rows)
