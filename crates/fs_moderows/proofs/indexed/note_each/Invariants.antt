use Rattle.std.proofs.Common.{◌≡◌, true, List, take}
use Rattle.fs_field.specs.declared.row.Row.{Row}
use Rattle.fs_field.specs.Table.{is_ordered}
use Rattle.fs_rows.specs.Granted.{with_rows}
use Rattle.fs_moderows.specs.Index.{IsIndexOf}
use Rattle.fs_moderows.proofs.indexed.note_each.Given as goal

abbrev pub invariant-loop-row : goal.invariant-loop-row
invariant-loop-row l = (rows : List Row) → is_ordered (with_rows l.more rows) ≡ true → IsIndexOf l.initial.index rows → IsIndexOf l.index (with_rows (take l.row-index l.more) rows)
