use Rattle.std.proofs.Common.{◌++◌, take, drop}
use Rattle.std.specs.List.{filter}
use Rattle.fs_field.specs.Table.{is_live}
use Rattle.fs_moderows.specs.Index.{IsIndexOf}
use Rattle.fs_moderows.proofs.indexed.forget_over.Given as goal

abbrev pub invariant-loop-row : goal.invariant-loop-row
invariant-loop-row l = IsIndexOf l.index (filter (is_live l.now l.skew) (take l.row-index l.rows) ++ drop l.row-index l.rows)
