use Rattle.std.proofs.Common.{◌≡◌, List, subst}
use Rattle.std.specs.Prelude.{IfOk}
use Rattle.std.specs.List.{filter_map}
use Rattle.fs_field.specs.declared.used.Use.{Use}
use Rattle.fs_view.specs.View.{item_use}
use Rattle.fs_client.specs.declared.state.Client.{Client}
use Rattle.fs_client.proofs.Pinnable.{uses_at}
use Rattle.fs_client.proofs.at_reading.AtReading.uses_of.Goals as goal

pub returns : goal.returns
returns c =
    let P : Client → Type 0 = λ x. IfOk c.uses_of.result (λ (uses : List Use). uses ≡ filter_map (item_use x.view x.last) c.args.items.now) in
    subst P c.self.view_is (uses_at c.self.inside.reading c.self.inside.client.now.view c.args.items.now c.uses_of.result c.uses_of.ensures)
