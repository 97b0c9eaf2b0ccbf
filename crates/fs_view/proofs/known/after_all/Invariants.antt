use Rattle.std.proofs.Common.{◌≡◌, drop}
use Rattle.fs_view.specs.View.{value_after_all}
use Rattle.fs_view.proofs.known.after_all.Given as goal

abbrev pub invariant-loop-e : goal.invariant-loop-e
invariant-loop-e l = value_after_all l.session l.field l.value (drop l.e-index l.effects) ≡ value_after_all l.session l.field l.initial.value l.effects
