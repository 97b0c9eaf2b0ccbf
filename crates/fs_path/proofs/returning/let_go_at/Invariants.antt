use Rattle.std.proofs.Common.{◌≡◌, not, true, vec_len}
use Rattle.std.specs.List.{filter}
use Rattle.fs_path.specs.Freed.{leaves_at}
use Rattle.fs_path.specs.Index.{IsHad}
use Rattle.fs_path.proofs.returning.let_go_at.Given as goal

abbrev pub invariant-loop-no : goal.invariant-loop-no
invariant-loop-no l = record {
  had : IsHad l.had l.held.items;
  whole : l.had.own.whole ≡ true;
  kept : filter (λ h. not (leaves_at l.file h)) l.held.items ≡ filter (λ h. not (leaves_at l.file h)) l.initial.held.items;
}

abbrev pub decreases-loop-no : goal.decreases-loop-no
decreases-loop-no l = vec_len l.held
