use Rattle.std.proofs.Common.{◌≡◌, drop}
use Rattle.std.specs.List.{filter, find}
use Rattle.fs_field.specs.Conflict.{stands_against}
use Rattle.fs_field.specs.Table.{is_live}
use Rattle.fs_rows.proofs.reads.first_in.Given as goal

abbrev pub invariant-loop-row : goal.invariant-loop-row
invariant-loop-row l = find (stands_against l.session l.field l.kind) (filter (is_live l.now l.skew) (drop l.row-index l.rows)) ≡ find (stands_against l.session l.field l.kind) (filter (is_live l.now l.skew) l.rows)
