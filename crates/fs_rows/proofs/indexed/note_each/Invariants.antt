use Rattle.std.proofs.Common.{List, take}
use Rattle.fs_field.specs.declared.row.Row.{Row}
use Rattle.fs_rows.specs.Granted.{with_rows}
use Rattle.fs_rows.specs.Index.{IsIndexOf}
use Rattle.fs_rows.proofs.indexed.note_each.Given as goal

abbrev pub invariant-loop-row : goal.invariant-loop-row
invariant-loop-row l = (rows : List Row) → IsIndexOf l.initial.index rows → IsIndexOf l.index (with_rows (take l.row-index l.more) rows)
