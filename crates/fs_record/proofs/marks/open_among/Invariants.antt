use Rattle.std.proofs.Common.{◌≡◌, ◌++◌, drop}
use Rattle.fs_record.specs.Marks.{open_among}
use Rattle.fs_record.proofs.marks.open_among.Given as goal

abbrev pub invariant-loop-file : goal.invariant-loop-file
invariant-loop-file l = l.files ++ open_among (drop l.file-index l.more) ≡ open_among l.more
