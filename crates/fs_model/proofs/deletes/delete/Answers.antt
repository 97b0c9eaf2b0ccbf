use Rattle.std.proofs.Common.{sym, subst}
use Rattle.fs_ident.specs.Maps.{map_of}
use Rattle.fs_model.specs.Ways.{AreTrue}
use Rattle.fs_model.proofs.WaysKept.{unlinked_true, deleted_true}
use Rattle.fs_model.proofs.deletes.delete.Goals.{in-Some-unlink, in_default-unlink}
use Rattle.fs_model.proofs.deletes.delete.Goals as goal

pub returns-clause-ways : goal.returns-clause-ways
returns-clause-ways c = elim c.match-unlink.branch [
  | in-Some-unlink w ↦ subst (λ ways. AreTrue (map_of c.match-unlink.nodes) ways) (sym w.ways-is) (subst (λ nodes. AreTrue (map_of nodes) w.forget.new.self) (sym w.nodes-is) (deleted_true (map_of c.args.nodes.now) (map_of c.unlink.new.nodes) (map_of w.remove.new.nodes) w.in-Some-unlink.file c.args.dir.now c.args.name.now c.args.ways.now w.forget.new.self c.unlink.ensures.rest w.remove.ensures w.forget.ensures c.requires.ways))
  | in_default-unlink w ↦ subst (λ ways. AreTrue (map_of c.match-unlink.nodes) ways) (sym w.ways-is) (subst (λ nodes. AreTrue (map_of nodes) c.args.ways.now) (sym w.nodes-is) (unlinked_true (map_of c.args.nodes.now) (map_of c.unlink.new.nodes) c.args.dir.now c.args.name.now c.args.ways.now c.unlink.ensures.rest c.requires.ways))
]
