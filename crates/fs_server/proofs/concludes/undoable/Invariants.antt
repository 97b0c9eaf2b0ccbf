use Rattle.std.proofs.Common.{◌≡◌, ◌++◌, drop}
use Rattle.std.specs.List.{filter}
use Rattle.fs_record.specs.Applied.{is_undoable}
use Rattle.fs_server.proofs.concludes.undoable.Given as goal

abbrev pub invariant-loop-e : goal.invariant-loop-e
invariant-loop-e l = l.told ++ filter is_undoable (drop l.e-index l.effects) ≡ filter is_undoable l.effects
