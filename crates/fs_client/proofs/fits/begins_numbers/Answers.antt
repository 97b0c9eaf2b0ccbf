use Rattle.std.proofs.Common.{sym, ◌∙◌, arith}
use Rattle.fs_client.proofs.FitsSteps.{no_more}
use Rattle.fs_client.proofs.fits.begins_numbers.Goals as goal

pub returns-then-at-sent : goal.returns-then-at-sent
returns-then-at-sent c = sym (no_more c.loop-at.at c.args.sent.now c.args.rows.now (omega arith) (omega arith)) ∙ c.loop-at.invariant.same
