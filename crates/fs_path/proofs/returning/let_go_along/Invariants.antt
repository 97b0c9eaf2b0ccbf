use Rattle.std.proofs.Common.{◌≡◌, true, take}
use Rattle.fs_path.specs.Freed.{without_freed}
use Rattle.fs_path.specs.Index.{IsHad}
use Rattle.fs_path.proofs.returning.let_go_along.Given as goal

abbrev pub invariant-loop-file : goal.invariant-loop-file
invariant-loop-file l = record {
  had : IsHad l.had l.held.items;
  whole : l.had.own.whole ≡ true;
  left : l.held.items ≡ without_freed l.issued (take l.file-index l.files) l.initial.held.items;
}
