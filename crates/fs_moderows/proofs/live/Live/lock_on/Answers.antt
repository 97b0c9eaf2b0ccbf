use Rattle.std.proofs.Common.{ap, ◌∙◌}
use Rattle.fs_moderows.proofs.Through.{lock_of, lock_found}
use Rattle.fs_moderows.proofs.live.Live.lock_on.Goals as goal

pub returns-in-Some : goal.returns-in-Some
returns-in-Some c = ap lock_of c.in-Some.ensures ∙ lock_found c.args.field.now c.args.self.now

pub returns-in-None : goal.returns-in-None
returns-in-None c = ap lock_of c.in-None.ensures ∙ lock_found c.args.field.now c.args.self.now
