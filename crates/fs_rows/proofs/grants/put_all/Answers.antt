use Rattle.std.proofs.Common.{ap, ◌∙◌}
use Rattle.std.specs.Vec.Iter.{into_iter_items}
use Rattle.fs_field.specs.Table.{is_ordered}
use Rattle.fs_rows.proofs.Placing.{ordered_before}
use Rattle.fs_rows.proofs.grants.put_all.Goals as goal

pub place_at-at-requires : goal.place_at-at-requires
place_at-at-requires c =
    ap is_ordered c.deref.ensures.value
    ∙ ordered_before (into_iter_items c.loop-row.row-iterator) c.loop-row.rows.items (ap is_ordered c.loop-row.invariant.1 ∙ c.requires.after)
