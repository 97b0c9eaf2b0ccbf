use Rattle.std.proofs.Common.{◌≡◌, true, drop}
use Rattle.std.specs.List.{filter}
use Rattle.fs_path.specs.Freed.{leaves}
use Rattle.fs_path.specs.Index.{are_rising, no_of_named}
use Rattle.fs_path.specs.Merged.{with_each}
use Rattle.fs_path.proofs.returning.put_leaving.Given as goal

abbrev pub invariant-loop-name : goal.invariant-loop-name
invariant-loop-name l = record {
  rising : are_rising no_of_named l.list ≡ true;
  all : with_each (filter (λ n. leaves n.1 l.held) (drop l.name-index l.names)) l.list ≡ with_each (filter (λ n. leaves n.1 l.held) l.names) l.initial.list;
}
