use Rattle.std.proofs.Common.{◌≡◌, ap, subst, ◌∙◌}
use Rattle.std.specs.Prelude.{OnOk, is_some}
use Rattle.std.specs.List.{position}
use Rattle.fs_path.specs.Index.{is_numbered, no_of_named, with_named}
use Rattle.fs_path.proofs.Merges.{once_new, once_there}
use Rattle.fs_path.proofs.merging.put_once.Goals as goal

pub returns-in-Some : goal.returns-in-Some
returns-in-Some c =
    let place = c.place_of_name.ensures ∙ ap (position (is_numbered no_of_named c.args.name.1)) c.as_slice.ensures in
    once_there c.args.name c.args.list.now c.place_of_name.result place (ap is_some c.in-Some.is)

pub returns-in-None : goal.returns-in-None
returns-in-None c =
    let place = c.place_of_name.ensures ∙ ap (position (is_numbered no_of_named c.args.name.1)) c.as_slice.ensures in
    let same = ap (with_named c.args.name) c.items_mut.ensures.value ∙ once_new c.args.name c.args.list.now c.place_of_name.result place (ap is_some c.in-None.is) in
    subst (λ names. OnOk c.put_name.result (c.put_name.new.names.items ≡ names)) same c.put_name.ensures
