use Rattle.fs_field.specs.Table.{is_live}
use Rattle.fs_moderows.proofs.Tied.{row_passed, all_gone}
use Rattle.fs_moderows.proofs.indexed.forget_over.Goals as goal

pub loop-row-preserved : goal.loop-row-preserved
loop-row-preserved c = row_passed (is_live c.args.now c.args.skew) c.loop-row.index c.pass.new.index c.args.rows.now c.loop-row.row-index c.row-item.result c.loop-row-test.true c.row-item.is c.is_live.result c.is_live.ensures c.pass.ensures c.requires.ordered c.loop-row.invariant

pub returns : goal.returns
returns c = all_gone (is_live c.args.now c.args.skew) c.loop-row.index c.args.rows.now c.loop-row.row-index c.loop-row-test.false c.loop-row.invariant
