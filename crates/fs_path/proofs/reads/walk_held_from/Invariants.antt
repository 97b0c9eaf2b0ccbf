use Rattle.std.proofs.Common.{◌≡◌, drop}
use Rattle.fs_path.specs.Returns.{held_from}
use Rattle.fs_path.proofs.reads.walk_held_from.Given as goal

abbrev pub invariant-loop-h : goal.invariant-loop-h
invariant-loop-h l = held_from l.no l.held ≡ held_from l.no (drop l.h-index l.held)
