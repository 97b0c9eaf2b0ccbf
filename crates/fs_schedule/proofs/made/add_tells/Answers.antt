use Rattle.std.proofs.Common.{[], ◌∷◌}
use Rattle.std.specs.Prelude.{None}
use Rattle.fs_schedule.specs.declared.event.What.TheVariants.{Tell}
use Rattle.fs_schedule.proofs.Making.{each_none, each_more}
use Rattle.fs_schedule.proofs.made.add_tells.Goals as goal

pub loop-k-init : goal.loop-k-init
loop-k-init c = each_none c.args.events.now (λ _. Tell None ∷ [])

pub loop-k-preserved : goal.loop-k-preserved
loop-k-preserved c = each_more (λ _. Tell None ∷ []) c.loop-k.k c.args.events.now c.loop-k.events c.add.new.events c.loop-k.invariant c.in_ok-add.ensures
