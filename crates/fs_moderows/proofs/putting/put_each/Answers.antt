use Rattle.std.proofs.Common.{ap, ◌∙◌}
use Rattle.std.specs.Vec.Iter.{into_iter_items}
use Rattle.fs_field.specs.Table.{is_ordered}
use Rattle.fs_moderows.proofs.InOrder.{ordered_before}
use Rattle.fs_moderows.proofs.putting.put_each.Goals as goal

pub put_one-requires-clause-ordered : goal.put_one-requires-clause-ordered
put_one-requires-clause-ordered c = ordered_before (into_iter_items c.loop-row.row-iterator) c.loop-row.rows.items (ap is_ordered c.loop-row.invariant.1 ∙ c.requires.ordered)
