use Rattle.std.proofs.Common.{ℕ, subst}
use Rattle.fs_world.specs.Calls.{Spends}
use Rattle.fs_world.specs.Served.{tell}
use Rattle.fs_world.proofs.servers.world.Served.tell_next.Goals as goal

pub returns-clause-spends : goal.returns-clause-spends
returns-clause-spends c =
    subst (λ (k : ℕ). Spends c.tell.result (tell c.args.now k c.args.self.now).spent) c.first_undelivered-next.ensures c.tell.ensures.spends
