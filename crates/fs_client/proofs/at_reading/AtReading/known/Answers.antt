use Rattle.std.proofs.Common.{◌≡◌, subst}
use Rattle.std.specs.Prelude.{Option, IfOk}
use Rattle.fs_field.specs.declared.value.Value.{Value}
use Rattle.fs_view.specs.View.{known_by}
use Rattle.fs_client.specs.declared.state.Client.{Client}
use Rattle.fs_client.proofs.Pinnable.{known_at}
use Rattle.fs_client.proofs.at_reading.AtReading.known.Goals as goal

pub returns : goal.returns
returns c =
    let P : Client → Type 0 = λ x. IfOk c.known.result (λ (v : Option Value). v ≡ known_by x.view x.last c.args.field.now c.args.kind) in
    subst P c.self.view_is (known_at c.self.inside.reading c.self.inside.client.now.view c.args.field.now c.args.kind c.known.result c.known.ensures)
