use Rattle.std.proofs.Common.{take}
use Rattle.fs_view.specs.Index.{IsIndexOf}
use Rattle.fs_view.proofs.twin.index_of.Given as goal

abbrev pub invariant-loop-lease : goal.invariant-loop-lease
invariant-loop-lease l = IsIndexOf l.index (take l.lease-index l.kept)
