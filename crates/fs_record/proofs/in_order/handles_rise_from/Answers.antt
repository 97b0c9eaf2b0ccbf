use Rattle.std.proofs.Common.{◌∙◌, sym}
use Rattle.fs_record.proofs.Rising.{handles_on}
use Rattle.fs_record.proofs.in_order.handles_rise_from.Goals as goal

pub loop-x-preserved : goal.loop-x-preserved
loop-x-preserved c =
    sym (handles_on c.loop-x.last c.args.rest.now c.loop-x.x-index _ c.loop-x-test.true (sym c.comes_before.ensures ∙ c.if-not-comes_before.false)) ∙ c.loop-x.invariant
