use Rattle.std.proofs.Common.{◌≡◌, ◌++◌, drop}
use Rattle.fs_record.specs.ValueOf.{selves_from}
use Rattle.fs_record.proofs.handles.selves_from.Given as goal

abbrev pub invariant-loop-x : goal.invariant-loop-x
invariant-loop-x l = l.told ++ selves_from l.of l.has (drop l.x-index l.handles) ≡ selves_from l.initial.of l.initial.has l.handles
