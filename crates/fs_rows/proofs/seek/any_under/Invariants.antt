use Rattle.std.proofs.Common.{◌≡◌}
use Rattle.std.specs.List.{filter}
use Rattle.std.specs.FinMap.{entries}
use Rattle.fs_ident.specs.Maps.{map_of}
use Rattle.fs_field.specs.Table.{is_live}
use Rattle.fs_rows.specs.Borne.{any_named}
use Rattle.fs_rows.proofs.seek.any_under.Given as goal

abbrev pub invariant-loop-entry : goal.invariant-loop-entry
invariant-loop-entry l = any_named l.entry-iterator (filter (is_live l.now l.skew) l.rows) ≡ any_named (entries (map_of l.named)) (filter (is_live l.now l.skew) l.rows)
