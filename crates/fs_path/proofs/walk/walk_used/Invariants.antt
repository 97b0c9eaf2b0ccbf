use Rattle.std.proofs.Common.{◌≡◌, drop}
use Rattle.fs_path.specs.Walk.{used_for}
use Rattle.fs_path.proofs.walk.walk_used.Given as goal

abbrev pub invariant-loop-h : goal.invariant-loop-h
invariant-loop-h l = used_for l.file l.held ≡ used_for l.file (drop l.h-index l.held)
