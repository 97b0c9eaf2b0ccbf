use Rattle.std.proofs.Common.{◌≡◌, true}
use Rattle.std.specs.FinMap.{entries}
use Rattle.fs_ident.specs.Maps.{map_of}
use Rattle.fs_path.specs.Index.{are_rising, no_of_named}
use Rattle.fs_path.specs.Into.{names_from, names_into}
use Rattle.fs_path.specs.Merged.{with_each}
use Rattle.fs_path.proofs.index.names_into.Given as goal

abbrev pub invariant-loop-entry : goal.invariant-loop-entry
invariant-loop-entry l = record {
  rising : are_rising no_of_named l.list ≡ true;
  all : with_each (names_from l.map l.me l.prefix l.entry-iterator) l.list ≡ names_into l.map l.me l.prefix (entries (map_of l.by_file));
}
