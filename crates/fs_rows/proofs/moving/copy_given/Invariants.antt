use Rattle.std.proofs.Common.{◌≡◌, ◌++◌, drop}
use Rattle.std.specs.List.{filter}
use Rattle.fs_field.specs.Table.{is_live}
use Rattle.fs_rows.specs.Moving.{rows_given}
use Rattle.fs_rows.proofs.moving.copy_given.Given as goal

abbrev pub invariant-loop-row : goal.invariant-loop-row
invariant-loop-row l = l.moved ++ rows_given l.piece.prefix l.piece.given (filter (is_live l.now l.skew) (drop l.row-index l.rows)) ≡ rows_given l.piece.prefix l.piece.given (filter (is_live l.now l.skew) l.rows)
