use Rattle.std.proofs.Common.{◌≡◌, drop}
use Rattle.fs_view.specs.Told.{modes_under}
use Rattle.fs_view.proofs.told.modes_under.Given as goal

abbrev pub invariant-loop-x : goal.invariant-loop-x
invariant-loop-x l = modes_under l.own l.h ≡ modes_under (drop l.x-index l.own) l.h
