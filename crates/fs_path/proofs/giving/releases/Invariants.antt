use Rattle.std.proofs.Common.{◌≡◌, ◌++◌, drop}
use Rattle.fs_path.specs.Asked.{asks}
use Rattle.fs_path.specs.Returns.{releases}
use Rattle.fs_path.proofs.giving.releases.Given as goal

abbrev pub invariant-loop-h : goal.invariant-loop-h
invariant-loop-h l = l.list ++ releases (asks l.asked) l.issued (drop l.h-index l.held) ≡ releases (asks l.asked) l.issued l.held
