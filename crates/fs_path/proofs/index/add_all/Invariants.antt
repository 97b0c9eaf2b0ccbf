use Rattle.std.proofs.Common.{take}
use Rattle.fs_path.specs.Index.{ChangesAmong, with_named}
use Rattle.fs_path.proofs.index.add_all.Given as goal

abbrev pub invariant-loop-at : goal.invariant-loop-at
invariant-loop-at l = ChangesAmong (with_named l.name) (take l.at l.files) l.initial.by_file l.by_file
