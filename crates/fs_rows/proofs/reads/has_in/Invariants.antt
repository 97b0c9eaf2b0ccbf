use Rattle.std.proofs.Common.{◌≡◌, ◌==◌, ◌&&◌, drop}
use Rattle.std.specs.List.{filter, list_any}
use Rattle.fs_field.specs.Field.{same_field}
use Rattle.fs_field.specs.Table.{is_live}
use Rattle.fs_field.specs.declared.row.Row.{Row}
use Rattle.fs_rows.proofs.reads.has_in.Given as goal

abbrev pub invariant-loop-row : goal.invariant-loop-row
invariant-loop-row l = list_any (λ (r : Row). same_field r.field l.field && (r.session.0 == l.session.0)) (filter (is_live l.now l.skew) (drop l.row-index l.rows)) ≡ list_any (λ (r : Row). same_field r.field l.field && (r.session.0 == l.session.0)) (filter (is_live l.now l.skew) l.rows)
