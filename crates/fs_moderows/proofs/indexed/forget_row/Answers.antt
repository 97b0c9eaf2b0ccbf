use Rattle.std.proofs.Common.{sym, subst}
use Rattle.fs_rows.specs.Index.{ChangesAt, but_number}
use Rattle.fs_moderows.proofs.Tied.{number_gone, number_absent}
use Rattle.fs_moderows.proofs.indexed.forget_row.Goals as goal

pub returns-in-Some : goal.returns-in-Some
returns-in-Some c = number_gone c.args.no c.args.index.now c.forget.new.self c.in-Some.row.now c.args.rows.now c.requires.ordered (sym c.in-Some.ensures) c.forget.ensures.whole (subst (λ f. ChangesAt (but_number c.args.no) f c.args.index.now.files c.forget.new.self.files) c.file.ensures c.forget.ensures.changed) c.requires.index

pub returns-in-None : goal.returns-in-None
returns-in-None c = number_absent c.args.no c.args.index.now c.args.rows.now (sym c.in-None.ensures) c.requires.index
