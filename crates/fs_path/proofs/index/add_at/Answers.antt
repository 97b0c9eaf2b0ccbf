use Rattle.std.proofs.Common.{ap, refl, sym, ◌∙◌}
use Rattle.std.proofs.lemmas.Result.{on_ok_weaker}
use Rattle.fs_path.specs.Index.{are_rising, no_of_named, with_named}
use Rattle.fs_path.proofs.ByFile.{found_there, new_at, set_at}
use Rattle.fs_path.proofs.index.add_at.Goals as goal

pub put_name-requires : goal.put_name-requires
put_name-requires c = ap (are_rising no_of_named) (c.items_mut.ensures.value ∙ sym (found_there _ c.args.file.now _ (sym c.in-Some.ensures.value))) ∙ c.requires

pub returns-in-Some : goal.returns-in-Some
returns-in-Some c = on_ok_weaker c.put_name.result (λ g. set_at (with_named c.args.name) _ _ c.args.file.now _ _ (sym c.in-Some.ensures.value) ((c.get_mut.follows.holds _).0) (g ∙ ap (with_named c.args.name) c.items_mut.ensures.value)) c.put_name.ensures

pub returns-in-None : goal.returns-in-None
returns-in-None c = on_ok_weaker c.put_first.result (λ s. new_at (with_named c.args.name) c.args.by_file.now _ _ c.args.file.now _ _ c.get_mut.follows.holds-at-none (sym c.in-None.ensures.value) refl refl s) c.put_first.ensures
