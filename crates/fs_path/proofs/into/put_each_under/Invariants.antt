use Rattle.std.proofs.Common.{◌≡◌, drop, true}
use Rattle.fs_path.specs.Index.{are_rising, no_of_named}
use Rattle.fs_path.specs.Into.{with_under}
use Rattle.fs_path.proofs.into.put_each_under.Given as goal

abbrev pub invariant-loop-name : goal.invariant-loop-name
invariant-loop-name l = record {
  rising : are_rising no_of_named l.list ≡ true;
  all : with_under l.over.files l.held (drop l.name-index l.names) l.list ≡ with_under l.over.files l.held l.names l.fn.list;
}
