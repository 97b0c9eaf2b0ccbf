use Rattle.std.proofs.Common.{◌&&◌, ap, sym, ◌∙◌}
use Rattle.fs_field.specs.Table.{is_live}
use Rattle.fs_moderows.specs.Sought.{file_sought, passes}
use Rattle.fs_moderows.proofs.Through.{first_there, number_step, numbers_end, some_next, none_next}
use Rattle.fs_moderows.proofs.sought.first_numbered.Goals as goal

pub loop-no-init : goal.loop-no-init
loop-no-init c = first_there c.args.sought.now (is_live c.args.now c.args.skew) c.args.rows.now

pub returns-then-is_some : goal.returns-then-is_some
returns-then-is_some c =
    some_next _ _ (sym c.is_some.ensures ∙ c.if-is_some.true)
    ∙ sym (number_step (λ r. is_live c.args.now c.args.skew r && passes c.args.sought.now r) (file_sought c.args.sought.now) c.args.rows.now c.args.numbers.now c.loop-no.no-index _ _ c.requires.ordered c.requires.numbers c.loop-no-test.true c.sought_at-found.ensures)
    ∙ c.loop-no.invariant

pub loop-no-preserved : goal.loop-no-preserved
loop-no-preserved c =
    none_next _ _ (sym c.is_some.ensures ∙ c.if-is_some.false)
    ∙ sym (number_step (λ r. is_live c.args.now c.args.skew r && passes c.args.sought.now r) (file_sought c.args.sought.now) c.args.rows.now c.args.numbers.now c.loop-no.no-index _ _ c.requires.ordered c.requires.numbers c.loop-no-test.true c.sought_at-found.ensures)
    ∙ c.loop-no.invariant

pub returns : goal.returns
returns c =
    sym (numbers_end (λ r. is_live c.args.now c.args.skew r && passes c.args.sought.now r) (file_sought c.args.sought.now) c.args.rows.now c.args.numbers.now c.loop-no.no-index c.requires.numbers c.loop-no-test.false)
    ∙ c.loop-no.invariant
