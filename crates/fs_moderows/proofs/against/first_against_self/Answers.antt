use Rattle.std.proofs.Common.{sym, subst, ◌∙◌}
use Rattle.fs_moderows.specs.Fixed.{AreFixedBut}
use Rattle.fs_moderows.proofs.FoundOnce.{none_told, self_found}
use Rattle.fs_moderows.proofs.against.first_against_self.Goals as goal

pub returns-then-not-is_told : goal.returns-then-not-is_told
returns-then-not-is_told c = sym (none_told c.args.opens.now c.args.rows.now c.args.file.now c.args.m c.args.session (sym c.is_told.ensures ∙ c.if-not-is_told.true))

pub returns : goal.returns
returns c = c.first.ensures ∙ self_found c.args.opens.now c.args.rows.now c.args.file.now c.args.m c.args.session c.fixed_but-fixed.result (subst (λ rows. AreFixedBut c.args.opens.now rows c.args.file.now c.args.m c.args.session c.fixed_but-fixed.result) c.only.ensures c.fixed_but-fixed.ensures)
