use Rattle.std.proofs.Common.{◌+◌, arith}
use Rattle.fs_schedule.proofs.Skews.{ahead_here}
use Rattle.fs_schedule.proofs.skew.first_ahead.Goals as goal

pub returns-then-skew-saturating_sub-clause-found : goal.returns-then-skew-saturating_sub-clause-found
returns-then-skew-saturating_sub-clause-found c = ahead_here (c.args.reading + c.args.skew) c.args.events.now c.loop-at.at c.index-events-at.result c.loop-at-test.true (omega (arith, c.saturating_sub.ensures, c.if-skew-saturating_sub.true)) c.loop-at.invariant
