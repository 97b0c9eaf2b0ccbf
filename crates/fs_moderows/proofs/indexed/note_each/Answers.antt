use Rattle.std.proofs.Common.{subst}
use Rattle.fs_moderows.specs.Index.{IsNoted}
use Rattle.fs_moderows.proofs.Tied.{noted_more, all_noted}
use Rattle.fs_moderows.proofs.indexed.note_each.Goals as goal

pub loop-row-preserved : goal.loop-row-preserved
loop-row-preserved c = noted_more c.args.index.now c.loop-row.index c.add.new.self c.args.more.now c.loop-row.row-index c.row-item.result c.loop-row-test.true c.row-item.is (subst (λ f. IsNoted c.row-item.result.no f c.loop-row.index c.add.new.self) c.file.ensures c.add.ensures) c.loop-row.invariant

pub returns : goal.returns
returns c = all_noted c.args.index.now c.loop-row.index c.args.more.now c.loop-row.row-index c.loop-row-test.false c.loop-row.invariant
