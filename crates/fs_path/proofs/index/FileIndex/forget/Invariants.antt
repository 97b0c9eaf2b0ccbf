use Rattle.std.proofs.Common.{take, ◌≡◌}
use Rattle.fs_path.specs.Index.{ChangesAmong, without_named}
use Rattle.fs_path.proofs.index.FileIndex.forget.Given as goal

abbrev pub invariant-loop-file : goal.invariant-loop-file
invariant-loop-file l = record {
  whole : l.self.whole ≡ l.initial.self.whole;
  files : ChangesAmong (without_named l.no) (take l.file-index l.files) l.initial.self.files l.self.files;
}
