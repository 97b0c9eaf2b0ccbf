use Rattle.std.proofs.Common.{◌++◌, take, drop}
use Rattle.std.specs.List.{filter}
use Rattle.std.specs.Prelude.{not}
use Rattle.fs_rows.specs.Moving.{is_on_given}
use Rattle.fs_moderows.specs.Index.{IsIndexOf}
use Rattle.fs_moderows.proofs.indexed.forget_given.Given as goal

abbrev pub invariant-loop-row : goal.invariant-loop-row
invariant-loop-row l = IsIndexOf l.index (filter (λ r. not (is_on_given l.piece.prefix l.piece.given r)) (take l.row-index l.rows) ++ drop l.row-index l.rows)
