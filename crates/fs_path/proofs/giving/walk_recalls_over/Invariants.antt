use Rattle.std.proofs.Common.{◌≡◌, ◌++◌, drop}
use Rattle.fs_path.specs.Leases.{goes_over}
use Rattle.fs_path.specs.Returns.{recalls}
use Rattle.fs_path.proofs.giving.walk_recalls_over.Given as goal

abbrev pub invariant-loop-l : goal.invariant-loop-l
invariant-loop-l l = l.list ++ recalls (goes_over l.file) (drop l.l-index l.issued) ≡ recalls (goes_over l.file) l.issued
