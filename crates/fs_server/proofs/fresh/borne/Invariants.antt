use Rattle.std.proofs.Common.{◌≡◌, ◌++◌, take}
use Rattle.fs_server.proofs.fresh.borne.Given as goal

abbrev pub invariant-loop-k : goal.invariant-loop-k
invariant-loop-k l = l.told ≡ l.initial.told ++ take l.k-index l.k-items
