use Rattle.fs_rows.proofs.Tied.{noted_behind, all_behind}
use Rattle.fs_rows.proofs.index.FieldIndex.of.Goals as goal

pub loop-row-preserved : goal.loop-row-preserved
loop-row-preserved c = noted_behind c.loop-row.index c.add.new.self c.args.rows.now c.loop-row.row-index c.row-item.result c.loop-row-test.true c.row-item.is c.add.ensures c.loop-row.invariant

pub returns : goal.returns
returns c = all_behind c.loop-row.index c.args.rows.now c.loop-row.row-index c.loop-row-test.false c.loop-row.invariant
