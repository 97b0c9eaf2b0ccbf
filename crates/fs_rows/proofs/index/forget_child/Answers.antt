use Rattle.fs_ident.proofs.MapsOf.{map_of_remove}
use Rattle.fs_rows.specs.Index.{but_number}
use Rattle.fs_rows.proofs.ByField.{emptied_at}
use Rattle.fs_rows.proofs.index.forget_child.Goals as goal

pub returns-then-thin_child : goal.returns-then-thin_child
returns-then-thin_child c = emptied_at (but_number c.args.no) _ _ _ c.args.name.now c.thin_child.ensures.changed (c.thin_child.ensures.empty c.if-thin_child.true) (map_of_remove _ _ _ c.remove.ensures.updates)
