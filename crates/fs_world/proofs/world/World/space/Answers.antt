use Rattle.std.proofs.Common.{ap, ◌∙◌, subst}
use Rattle.fs_world.specs.Linked.{IsWhole}
use Rattle.fs_world.specs.declared.form.Form.{Form}
use Rattle.fs_serial.specs.Cluster.{parcels_of}
use Rattle.fs_world.proofs.AtServer.{parcels_apart}
use Rattle.fs_world.proofs.world.World.space.Goals as goal

pub joined-requires : goal.joined-requires
joined-requires c = λ p i e j. (
    parcels_apart c.in-Served.served (subst (λ (f : Form). IsWhole f) c.in-Served.is c.self.invariant)
    c.in_ok-parcels-in-Served.parcels (c.in_ok-parcels-in-Served.ensures ∙ ap parcels_of c.as_slice-in_flight.ensures) p i e j).in_order
