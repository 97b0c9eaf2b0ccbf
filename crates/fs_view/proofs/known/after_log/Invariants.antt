use Rattle.std.proofs.Common.{◌≡◌, drop}
use Rattle.fs_view.specs.View.{value_after_log}
use Rattle.fs_view.proofs.known.after_log.Given as goal

abbrev pub invariant-loop-effects : goal.invariant-loop-effects
invariant-loop-effects l = value_after_log l.session l.field l.value (drop l.effects-index l.log) ≡ value_after_log l.session l.field l.initial.value l.log
