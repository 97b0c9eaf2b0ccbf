use Rattle.std.proofs.Common.{◌≡◌, drop}
use Rattle.std.specs.List.{list_any}
use Rattle.fs_field.specs.Table.{is_lease}
use Rattle.fs_field.proofs.table.holds.Given as goal

abbrev pub invariant-loop-row : goal.invariant-loop-row
invariant-loop-row l = list_any (is_lease l.no l.session l.field l.kind) l.rows ≡ list_any (is_lease l.no l.session l.field l.kind) (drop l.row-index l.rows)
