use Rattle.std.proofs.Common.{◌≡◌, drop}
use Rattle.fs_path.specs.Asked.{asks}
use Rattle.fs_path.specs.Returns.{rests_on_asked}
use Rattle.fs_path.proofs.asked.Asked.stands_under.Given as goal

abbrev pub invariant-loop-h : goal.invariant-loop-h
invariant-loop-h l = rests_on_asked (asks l.self) l.held l.l ≡ rests_on_asked (asks l.self) (drop l.h-index l.held) l.l
