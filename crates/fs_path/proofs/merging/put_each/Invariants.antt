use Rattle.std.proofs.Common.{◌≡◌, true, drop}
use Rattle.fs_path.specs.Index.{are_rising, no_of_named}
use Rattle.fs_path.specs.Merged.{with_each}
use Rattle.fs_path.proofs.merging.put_each.Given as goal

-- the names that are left join those that are there
abbrev pub invariant-loop-name : goal.invariant-loop-name
invariant-loop-name l = record {
  rising : are_rising no_of_named l.list ≡ true;
  all : with_each (drop l.name-index l.names) l.list ≡ with_each l.names l.fn.list;
}
