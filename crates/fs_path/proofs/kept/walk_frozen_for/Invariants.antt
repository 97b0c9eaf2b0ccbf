use Rattle.std.proofs.Common.{◌≡◌, drop}
use Rattle.fs_path.specs.Tables.{frozen_for}
use Rattle.fs_path.proofs.kept.walk_frozen_for.Given as goal

abbrev pub invariant-loop-kept : goal.invariant-loop-kept
invariant-loop-kept l = frozen_for l.file l.frozen ≡ frozen_for l.file (drop l.kept-index l.frozen)
