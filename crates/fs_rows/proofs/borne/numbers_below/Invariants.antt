use Rattle.std.proofs.Common.{◌≡◌, ◌++◌}
use Rattle.std.specs.List.{filter}
use Rattle.std.specs.FinMap.{entries}
use Rattle.fs_ident.specs.Maps.{map_of}
use Rattle.fs_field.specs.Table.{is_live}
use Rattle.fs_rows.specs.Borne.{numbers_below, numbers_from}
use Rattle.fs_rows.proofs.borne.numbers_below.Given as goal

abbrev pub invariant-loop-entry : goal.invariant-loop-entry
invariant-loop-entry l = l.told ++ numbers_from l.dir (filter (is_live l.now l.skew) l.rows) l.entry-iterator ≡ numbers_below l.dir (filter (is_live l.now l.skew) l.rows) (entries (map_of l.files))
