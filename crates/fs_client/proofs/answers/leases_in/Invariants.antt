use Rattle.std.proofs.Common.{◌≡◌, take}
use Rattle.fs_client.specs.Answers.{leases_in}
use Rattle.fs_client.proofs.answers.leases_in.Given as goal

abbrev pub invariant-loop-g : goal.invariant-loop-g
invariant-loop-g l = l.leases ≡ leases_in l.fresh (take l.g-index l.grants)
