use Rattle.std.proofs.Common.{◌≡◌, ◌++◌, drop}
use Rattle.fs_record.specs.ValueOf.{own_of}
use Rattle.fs_record.proofs.handles.own.Given as goal

abbrev pub invariant-loop-x : goal.invariant-loop-x
invariant-loop-x l = l.told ++ own_of l.session (drop l.x-index l.handles) ≡ own_of l.session l.handles
