use Rattle.std.proofs.Common.{ap, sym, subst, ◌∙◌}
use Rattle.fs_field.specs.Table.{with_row}
use Rattle.fs_moderows.specs.Index.{IsIndexOf, IsNoted}
use Rattle.fs_moderows.proofs.Tied.{row_more}
use Rattle.fs_moderows.proofs.indexed.add_row.Goals as goal

pub returns-clause-index : goal.returns-clause-index
returns-clause-index c =
    subst (IsIndexOf c.add.new.self) (sym (c.put_one.ensures.rows ∙ ap (with_row c.args.given) c.in_ok-reserve.ensures.items))
    (row_more c.args.index.now c.add.new.self c.args.given c.args.rows.now.items (subst (λ f. IsNoted c.args.given.no f c.args.index.now c.add.new.self) c.file.ensures c.add.ensures) c.requires.ordered c.requires.index)
