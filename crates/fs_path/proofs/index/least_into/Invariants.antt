use Rattle.std.proofs.Common.{◌≡◌}
use Rattle.std.specs.FinMap.{entries}
use Rattle.fs_ident.specs.Maps.{map_of}
use Rattle.fs_path.specs.Index.{least_from, least_into}
use Rattle.fs_path.specs.Leases.{lesser_no}
use Rattle.fs_path.proofs.index.least_into.Given as goal

abbrev pub invariant-loop-entry : goal.invariant-loop-entry
invariant-loop-entry l = lesser_no l.least (least_from l.map l.me l.prefix l.entry-iterator) ≡ least_into l.map l.me l.prefix (entries (map_of l.by_file))
