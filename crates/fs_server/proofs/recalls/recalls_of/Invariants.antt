use Rattle.std.proofs.Common.{◌≡◌, take}
use Rattle.fs_server.specs.Step.{recalls_of}
use Rattle.fs_server.proofs.recalls.recalls_of.Given as goal

abbrev pub invariant-loop-no : goal.invariant-loop-no
invariant-loop-no l = l.send ≡ recalls_of (take l.no-index l.leases)
