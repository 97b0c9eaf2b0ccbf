use Rattle.std.proofs.Common.{◌≡◌, sym, ap, subst, ◌∙◌}
use Rattle.std.specs.List.{filter_map}
use Rattle.fs_view.specs.View.{can_pin_all, item_use}
use Rattle.fs_client.specs.declared.state.Client.{Client}
use Rattle.fs_client.proofs.Pinnable.{pinned_at}
use Rattle.fs_client.proofs.at_reading.AtReading.can_pin.Goals as goal

pub returns : goal.returns
returns c =
    let P : Client → Type 0 = λ x. c.args.uses.now ≡ filter_map (item_use x.view x.last) c.requires.0 in
    pinned_at c.self.inside.reading c.self.inside.client.now.view c.requires.0 c.args.uses.now c.can_pin.result c.can_pin.ensures.distinct (subst P (sym c.self.view_is) c.requires.1) c.can_pin.ensures.same
    ∙ ap (λ (x : Client). can_pin_all c.args.uses.now x.view.leases) c.self.view_is
