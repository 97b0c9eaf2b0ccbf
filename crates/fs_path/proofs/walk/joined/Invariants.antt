use Rattle.std.proofs.Common.{◌≡◌, ◌++◌, take}
use Rattle.fs_path.proofs.walk.joined.Given as goal

abbrev pub invariant-loop-file : goal.invariant-loop-file
invariant-loop-file l = l.files ≡ l.front ++ take l.file-index l.back
