use Rattle.std.proofs.Common.{◌≡◌, drop}
use Rattle.std.specs.List.{filter, list_any}
use Rattle.fs_field.specs.Table.{is_lease, is_live}
use Rattle.fs_rows.proofs.reads.holds_in.Given as goal

abbrev pub invariant-loop-row : goal.invariant-loop-row
invariant-loop-row l = list_any (is_lease l.no l.session l.field l.kind) (filter (is_live l.now l.skew) (drop l.row-index l.rows)) ≡ list_any (is_lease l.no l.session l.field l.kind) (filter (is_live l.now l.skew) l.rows)
