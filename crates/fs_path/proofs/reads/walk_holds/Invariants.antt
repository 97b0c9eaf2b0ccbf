use Rattle.std.proofs.Common.{◌≡◌, drop}
use Rattle.fs_path.specs.Tables.{holds}
use Rattle.fs_path.proofs.reads.walk_holds.Given as goal

abbrev pub invariant-loop-h : goal.invariant-loop-h
invariant-loop-h l = holds l.no l.held ≡ holds l.no (drop l.h-index l.held)
