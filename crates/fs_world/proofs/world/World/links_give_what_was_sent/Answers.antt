use Rattle.std.proofs.Common.{subst}
use Rattle.fs_world.specs.Carried.{LinksCarry}
use Rattle.fs_world.proofs.Carrying.{links_carry}
use Rattle.fs_world.proofs.world.World.links_give_what_was_sent.Goals as goal

pub returns : goal.returns
returns c = subst LinksCarry c.self.view_is (links_carry c.self.inside.form c.self.invariant)
