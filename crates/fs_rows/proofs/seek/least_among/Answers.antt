use Rattle.std.proofs.Common.{◌&&◌, ◌∙◌}
use Rattle.fs_field.specs.Table.{is_live}
use Rattle.fs_rows.specs.Sought.{passes}
use Rattle.fs_rows.proofs.Seeking.{among_step, none_among, all_among}
use Rattle.fs_rows.proofs.seek.least_among.Goals as goal

pub loop-no-init : goal.loop-no-init
loop-no-init c = none_among (λ r. is_live c.args.now c.args.skew r && passes c.args.sought.now r) c.args.rows.now

pub loop-no-preserved : goal.loop-no-preserved
loop-no-preserved c = c.lesser-least.ensures ∙ among_step (λ r. is_live c.args.now c.args.skew r && passes c.args.sought.now r) c.args.rows.now c.args.numbers.now c.loop-no.no-index _ _ _ c.requires c.loop-no-test.true c.loop-no.invariant c.sought_at.ensures

pub returns : goal.returns
returns c = all_among (λ r. is_live c.args.now c.args.skew r && passes c.args.sought.now r) c.args.rows.now c.args.numbers.now c.loop-no.no-index _ c.loop-no-test.false c.loop-no.invariant
