use Rattle.std.proofs.Common.{◌≡◌, ◌++◌}
use Rattle.std.specs.Vec.Iter.{into_iter_items}
use Rattle.fs_parcel.specs.Rows.{rows_off_modes, rows_on_modes}
use Rattle.fs_parcel.proofs.parts.Parts.of.Given as goal

abbrev pub invariant-loop-row : goal.invariant-loop-row
invariant-loop-row l =
    (l.plain ++ rows_off_modes (into_iter_items l.row-iterator) ≡ rows_off_modes l.fn.rows)
    × (l.modes ++ rows_on_modes (into_iter_items l.row-iterator) ≡ rows_on_modes l.fn.rows)
