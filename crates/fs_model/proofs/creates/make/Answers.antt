use Rattle.std.proofs.Common.{◌∙◌, ◌≡◌, ap, sym, subst, arith, Some}
use Rattle.std.specs.FinMap.{remove, insert}
use Rattle.std.proofs.lemmas.Grind.{common_steps}
use Rattle.fs_ident.specs.Maps.{map_of}
use Rattle.fs_ident.proofs.MapsOf.{remove-insert}
use Rattle.fs_model.specs.Namespace.{NodeMap, IsSpace, fresh_node}
use Rattle.fs_model.proofs.Spaces.{IsSpace-insert}
use Rattle.fs_model.proofs.Keeping.{fresh_in_order}
use Rattle.fs_model.proofs.creates.make.Goals as goal

pub link-requires : goal.link-requires
link-requires c =
    let parent = Some (c.args.dir.now, c.args.name.now) in
    let added : map_of c.add.new.nodes ≡ insert (map_of c.args.nodes.now) c.args.id.now (fresh_node c.args.kind parent) = grind (arith, common_steps) in
    subst IsSpace (sym added) (IsSpace-insert (map_of c.args.nodes.now) c.args.id.now (fresh_node c.args.kind parent) c.requires.in_order (fresh_in_order c.args.kind parent))

pub returns-in-Err-clause-err : goal.returns-in-Err-clause-err
returns-in-Err-clause-err c =
    let parent = Some (c.args.dir.now, c.args.name.now) in
    let added : map_of c.add.new.nodes ≡ insert (map_of c.args.nodes.now) c.args.id.now (fresh_node c.args.kind parent) = grind (arith, common_steps) in
    c.remove.ensures
    ∙ ap (λ (m : NodeMap). remove m c.args.id.now) (c.in-Err.ensures.err ∙ added)
    ∙ remove-insert (map_of c.args.nodes.now) c.args.id.now (fresh_node c.args.kind parent) c.requires.absent
