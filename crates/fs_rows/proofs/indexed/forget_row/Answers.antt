use Rattle.std.proofs.Common.{sym}
use Rattle.fs_rows.proofs.Tied.{number_gone, number_absent}
use Rattle.fs_rows.proofs.indexed.forget_row.Goals as goal

pub returns-in-Some : goal.returns-in-Some
returns-in-Some c = number_gone c.args.index.now _ c.in-Some.row.now c.args.rows.now c.args.no c.requires.ordered (sym c.in-Some.ensures) c.forget.ensures.whole c.forget.ensures.changed c.requires.index

pub returns-in-None : goal.returns-in-None
returns-in-None c = number_absent c.args.index.now c.args.rows.now c.args.no (sym c.in-None.ensures) c.requires.index
