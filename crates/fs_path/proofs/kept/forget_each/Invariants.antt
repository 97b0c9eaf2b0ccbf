use Rattle.std.proofs.Common.{map, take}
use Rattle.fs_path.specs.ByFile.{ChangesAmong}
use Rattle.fs_path.specs.Kept.{but_txn, file_of}
use Rattle.fs_path.proofs.kept.forget_each.Given as goal

abbrev pub invariant-loop-kept : goal.invariant-loop-kept
invariant-loop-kept l = ChangesAmong (but_txn l.txn) (take l.kept-index (map file_of l.frozen)) l.initial.by_file l.by_file
