use Rattle.std.proofs.Common.{◌≡◌, drop}
use Rattle.fs_path.specs.Index.{has_other}
use Rattle.fs_path.proofs.returning.has_other.Given as goal

abbrev pub invariant-loop-name : goal.invariant-loop-name
invariant-loop-name l = has_other l.no l.names ≡ has_other l.no (drop l.name-index l.names)
