use Rattle.std.proofs.Common.{[], ◌∷◌}
use Rattle.fs_schedule.specs.declared.event.What.TheVariants.{Join}
use Rattle.fs_schedule.specs.Made.{session}
use Rattle.fs_schedule.proofs.Making.{each_none, each_more}
use Rattle.fs_schedule.proofs.made.add_joins.Goals as goal

pub loop-k-init : goal.loop-k-init
loop-k-init c = each_none c.args.events.now (λ k. Join (session k) ∷ [])

pub loop-k-preserved : goal.loop-k-preserved
loop-k-preserved c = each_more (λ k. Join (session k) ∷ []) c.loop-k.k c.args.events.now c.loop-k.events c.add.new.events c.loop-k.invariant c.in_ok-add.ensures
