use Rattle.std.proofs.Common.{◌≡◌, take}
use Rattle.fs_path.specs.Freed.{freed_names}
use Rattle.fs_path.specs.Returns.{without_no}
use Rattle.fs_path.proofs.returning.releases_along.Given as goal

abbrev pub invariant-loop-file : goal.invariant-loop-file
invariant-loop-file l = l.list ≡ freed_names (without_no l.no l.issued) (take l.file-index l.files) l.held
