use Rattle.std.proofs.Common.{◌≡◌, ◌++◌, drop}
use Rattle.fs_server.specs.PathSteps.{path_releases}
use Rattle.fs_server.proofs.path_returns.give_all_back.Given as goal

abbrev pub invariant-loop-to : goal.invariant-loop-to
invariant-loop-to l = l.send ++ path_releases (drop l.to-index l.leases) ≡ l.initial.send ++ path_releases l.leases
