use Rattle.std.proofs.Common.{sym, ap, ◌∙◌}
use Rattle.std.proofs.lemmas.List.{take_all}
use Rattle.fs_view.specs.Index.{end_no_sooner}
use Rattle.fs_view.proofs.Ending.{least_step}
use Rattle.fs_view.proofs.ends.least_end.Goals as goal

pub loop-lease-preserved : goal.loop-lease-preserved
loop-lease-preserved c = least_step c.args.kept.now c.loop-lease.lease-index c.lease-item.result c.loop-lease.least _ c.loop-lease-test.true c.lease-item.is c.lesser_end-least.ensures c.loop-lease.invariant

pub returns : goal.returns
returns c = ap (end_no_sooner c.loop-lease.least) (sym (take_all c.loop-lease.lease-index c.args.kept.now c.loop-lease-test.false)) ∙ c.loop-lease.invariant
