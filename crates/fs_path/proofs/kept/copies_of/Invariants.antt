use Rattle.std.proofs.Common.{◌≡◌, take}
use Rattle.fs_path.proofs.kept.copies_of.Given as goal

abbrev pub invariant-loop-file : goal.invariant-loop-file
invariant-loop-file l = l.copies ≡ take l.file-index l.files
