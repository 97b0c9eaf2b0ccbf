use Rattle.std.proofs.Common.{sym, ◌∙◌}
use Rattle.fs_client.specs.Answers.{fitting_plan}
use Rattle.fs_client.proofs.Granted.{fits_can, ok_can}
use Rattle.fs_client.proofs.answers.answer.Goals as goal

pub returns-then-fits-clause-can : goal.returns-then-fits-clause-can
returns-then-fits-clause-can c =
    ok_can c.fitting_plan.result (fitting_plan c.args.a.now c.args.at.now) c.args.at.now c.fitting_plan.ensures
    (fits_can c.args.from c.args.at.now.exchange c.args.a.now c.args.at.now c.requires (sym c.fits.ensures ∙ c.if-fits.true))
