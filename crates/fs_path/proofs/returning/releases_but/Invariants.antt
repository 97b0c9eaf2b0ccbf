use Rattle.std.proofs.Common.{◌≡◌, ◌++◌, drop}
use Rattle.fs_path.specs.Returns.{releases, without_no}
use Rattle.fs_path.specs.Tables.{is_leaving}
use Rattle.fs_path.proofs.returning.releases_but.Given as goal

abbrev pub invariant-loop-h : goal.invariant-loop-h
invariant-loop-h l = l.list ++ releases is_leaving (without_no l.no l.issued) (drop l.h-index l.held) ≡ releases is_leaving (without_no l.no l.issued) l.held
