use Rattle.std.proofs.Common.{ap, sym, ◌∙◌}
use Rattle.fs_moderows.specs.Answer.{reap_blocker}
use Rattle.fs_moderows.proofs.Tables.{numbered_least}
use Rattle.fs_moderows.proofs.mode_rows.ModeRows.may_reap.Goals as goal

pub returns-clause-least : goal.returns-clause-least
returns-clause-least c blocker h = numbered_least _ c.args.self.now blocker c.all.ensures.valid (sym (c.may_reap.ensures ∙ ap (λ rows. reap_blocker c.args.selves.now rows c.args.session c.args.file.now) c.all.ensures.same) ∙ h)
