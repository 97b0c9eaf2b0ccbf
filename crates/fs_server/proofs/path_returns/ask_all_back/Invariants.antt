use Rattle.std.proofs.Common.{◌≡◌, ◌++◌, drop}
use Rattle.fs_server.specs.PathSteps.{path_recalls}
use Rattle.fs_server.proofs.path_returns.ask_all_back.Given as goal

abbrev pub invariant-loop-to : goal.invariant-loop-to
invariant-loop-to l = l.send ++ path_recalls (drop l.to-index l.leases) ≡ l.initial.send ++ path_recalls l.leases
