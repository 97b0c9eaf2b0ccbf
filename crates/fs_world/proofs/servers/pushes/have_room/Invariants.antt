use Rattle.std.proofs.Common.{drop}
use Rattle.fs_world.specs.Linked.{FitsDown}
use Rattle.fs_world.proofs.servers.pushes.have_room.Given as goal

-- where there is room for those that are left, there is for all
abbrev pub invariant-loop-sent : goal.invariant-loop-sent
invariant-loop-sent l = record { fits : FitsDown (drop l.sent-index l.send) → FitsDown l.send }
