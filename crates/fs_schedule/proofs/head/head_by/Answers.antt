use Rattle.std.proofs.Common.{refl, sym, ◌∙◌}
use Rattle.fs_schedule.specs.Reading.{word_of, words_in}
use Rattle.fs_schedule.proofs.Refusals.{no_error, no_form, tells_form}
use Rattle.fs_schedule.proofs.head.head_by.Goals as goal

pub returns-then-is_bare : goal.returns-then-is_bare
returns-then-is_bare c = tells_form _ (word_of c.args.form.now) _ (words_in c.args.operands.now) (c.is_bare.ensures.0 c.if-is_bare.true) c.direct_of.ensures

pub returns-then-is_bare-2 : goal.returns-then-is_bare-2
returns-then-is_bare-2 c = tells_form _ (word_of c.args.form.now) _ (words_in c.args.operands.now) (c.is_bare-2.ensures.0 c.if-is_bare-2.true) c.servers_of.ensures

pub returns : goal.returns
returns c = (refl, λ head is. no_form head (word_of c.args.form.now) (words_in c.args.operands.now) (λ e. no_error (sym c.if-is_bare.false ∙ c.is_bare.ensures.1 e)) (λ e. no_error (sym c.if-is_bare-2.false ∙ c.is_bare-2.ensures.1 e)) is)
