use Rattle.std.proofs.Common.{sym, subst}
use Rattle.fs_rows.specs.Index.{IsIndexOf, IsNoted}
use Rattle.fs_rows.proofs.Tied.{row_more}
use Rattle.fs_rows.proofs.rows.ask.Goals as goal

pub returns-in_ok-put_row-clause-index : goal.returns-in_ok-put_row-clause-index
returns-in_ok-put_row-clause-index c =
    subst (IsIndexOf c.add.new.self) (sym c.in_ok-put_row.ensures.ok)
    (row_more c.args.index.now c.add.new.self _ c.args.rows.now.items (subst (λ f. IsNoted c.args.no f c.args.index.now c.add.new.self) (sym c.in_ok-copy.ensures) c.add.ensures) c.requires.index)
