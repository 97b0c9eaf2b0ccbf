use Rattle.std.proofs.Common.{true, false, ap, sym, ◌∙◌}
use Rattle.std.specs.Option.{option_copied}
use Rattle.fs_moderows.proofs.FoundOnce.{nobody_fixed, some_fixed}
use Rattle.fs_moderows.proofs.fixed.fixed_but.Goals as goal

pub returns-then-has_fixed : goal.returns-then-has_fixed
returns-then-has_fixed c = some_fixed c.args.opens.now c.args.rows.now c.args.file.now c.args.m c.args.y c.in-Some.e.now true (sym c.first_fixed.ensures ∙ ap option_copied c.in-Some.is) (sym c.if-has_fixed.true ∙ c.has_fixed.ensures)

pub returns-else-has_fixed : goal.returns-else-has_fixed
returns-else-has_fixed c = some_fixed c.args.opens.now c.args.rows.now c.args.file.now c.args.m c.args.y c.in-Some.e.now false (sym c.first_fixed.ensures ∙ ap option_copied c.in-Some.is) (sym c.if-has_fixed.false ∙ c.has_fixed.ensures)

pub returns-in-None : goal.returns-in-None
returns-in-None c = nobody_fixed c.args.opens.now c.args.rows.now c.args.file.now c.args.m c.args.y (sym c.first_fixed.ensures ∙ ap option_copied c.in-None.is)
