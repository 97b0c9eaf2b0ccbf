use Rattle.std.proofs.Common.{◌≡◌, ◌++◌, drop}
use Rattle.std.specs.Prelude.{◌||◌}
use Rattle.fs_path.specs.Asked.{asks, asks_issued}
use Rattle.fs_path.specs.Returns.{recalls, rests_on_asked}
use Rattle.fs_path.proofs.giving.recalls.Given as goal

abbrev pub invariant-loop-l : goal.invariant-loop-l
invariant-loop-l l = l.list ++ recalls (λ x. asks_issued l.asked x || rests_on_asked (asks l.asked) l.held x) (drop l.l-index l.issued) ≡ recalls (λ x. asks_issued l.asked x || rests_on_asked (asks l.asked) l.held x) l.issued
