use Rattle.std.proofs.Common.{◌≡◌, ◌+◌, ◌≤◌, vec_len}
use Rattle.std.specs.Prelude.{vec_capacity}
use Rattle.std.specs.Vec.Iter.{into_iter_items, into_iter_len}
use Rattle.fs_rows.specs.Granted.{with_rows}
use Rattle.fs_moderows.proofs.putting.put_each.Given as goal

abbrev pub invariant-loop-row : goal.invariant-loop-row
invariant-loop-row l =
    (vec_len l.rows + into_iter_len l.row-iterator ≤ vec_capacity l.rows)
    × (with_rows (into_iter_items l.row-iterator) l.rows.items ≡ with_rows l.fn.more l.initial.rows.items)
