use Rattle.std.proofs.Common.{ap}
use Rattle.std.specs.Prelude.{not}
use Rattle.fs_rows.specs.Moving.{is_on_given}
use Rattle.fs_moderows.proofs.Tied.{row_passed, all_gone}
use Rattle.fs_moderows.proofs.indexed.forget_given.Goals as goal

pub loop-row-preserved : goal.loop-row-preserved
loop-row-preserved c = row_passed (λ r. not (is_on_given c.args.piece.now.prefix c.args.piece.now.given r)) c.loop-row.index c.pass.new.index c.args.rows.now c.loop-row.row-index c.row-item.result c.loop-row-test.true c.row-item.is _
    (ap not (rw (c.of-given.ensures, c.file.ensures) at c.has.ensures)) c.pass.ensures c.requires.ordered c.loop-row.invariant

pub returns : goal.returns
returns c = all_gone (λ r. not (is_on_given c.args.piece.now.prefix c.args.piece.now.given r)) c.loop-row.index c.args.rows.now c.loop-row.row-index c.loop-row-test.false c.loop-row.invariant
