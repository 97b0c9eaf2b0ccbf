use Rattle.std.proofs.Common.{rules, ◌≡◌, sym, subst}
use Rattle.fs_model.specs.Namespace.{IsSpace, with_change}
use Rattle.fs_ident.specs.Maps.{map_of}
use Rattle.fs_model.specs.Step.{with_link}
use Rattle.fs_model.specs.Ways.{AreTrue}
use Rattle.fs_model.proofs.WaysKept.{moved_true}
use Rattle.fs_model.proofs.Spaces.{IsSpace-with_change}
use Rattle.fs_model.proofs.Keeping.{with_link_in_order}
use Rattle.fs_model.proofs.renames.move_node.Goals as goal

pub unlink-requires : goal.unlink-requires
unlink-requires c =
    let name = c.in_ok-place-2.child_name in
    let child = c.in_ok-place-2.child in
    let linked : map_of c.link.new.nodes ≡ with_change (with_link name child) (map_of c.args.nodes.now) c.args.ddir.now = rw c.in_ok-dir.ensures.ok.1 at c.link.ensures.ok in
    subst IsSpace (sym linked) (IsSpace-with_change (with_link name child) (map_of c.args.nodes.now) c.args.ddir.now (with_link_in_order name child) c.requires.space)

pub returns-in_err-dir-clause-ways : goal.returns-in_err-dir-clause-ways
returns-in_err-dir-clause-ways c =
    let same : map_of c.link.new.nodes ≡ map_of c.args.nodes.now = search rules in
    subst (λ m. AreTrue m c.args.ways.now) (sym same) c.requires.ways

pub returns-clause-ways : goal.returns-clause-ways
returns-clause-ways c =
    let name = c.in_ok-place-2.child_name in
    let child = c.in_ok-place-2.child in
    let linked : map_of c.link.new.nodes ≡ with_change (with_link name child) (map_of c.args.nodes.now) c.args.ddir.now = rw c.in_ok-dir.ensures.ok.1 at c.link.ensures.ok in
    moved_true (map_of c.args.nodes.now) (map_of c.link.new.nodes) (map_of c.unlink.new.nodes) (map_of c.reparent.new.nodes) c.args.file.now c.args.sdir.now c.args.sname.now c.args.ddir.now name c.in_ok-dir.dir c.in_ok-dir.name child c.args.ways.now c.forget.new.self linked c.unlink.ensures.rest c.reparent.ensures c.forget.ensures c.requires.ways
