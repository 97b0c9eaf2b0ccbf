use Rattle.std.proofs.Common.{sym, ◌∙◌}
use Rattle.fs_moderows.proofs.Apart.{none_against_self, some_against_self}
use Rattle.fs_moderows.proofs.fitting.is_against_self.Goals as goal

pub returns-then-not-is_told_in : goal.returns-then-not-is_told_in
returns-then-not-is_told_in c = sym (none_against_self c.args.opens.now c.args.rows.now c.args.file.now c.args.m c.args.session (sym c.is_told_in.ensures ∙ c.if-not-is_told_in.true))

pub returns : goal.returns
returns c = c.is_against_in.ensures ∙ some_against_self c.args.opens.now c.args.rows.now c.args.file.now c.args.m c.args.session c.fixed_but-fixed.result c.fixed_but-fixed.ensures
