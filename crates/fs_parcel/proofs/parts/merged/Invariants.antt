use Rattle.std.proofs.Common.{◌≡◌, ◌++◌, ◌+◌, vec_len}
use Rattle.fs_parcel.specs.Merged.{AreFalling, both_of}
use Rattle.fs_parcel.specs.Rows.{in_one_list}
use Rattle.fs_parcel.proofs.parts.merged.Given as goal

-- the rows that are taken, and those that are left, are all
abbrev pub invariant-loop-row : goal.invariant-loop-row
invariant-loop-row l = record {
  falling : AreFalling l.falling_plain.items l.falling_modes.items;
  all : l.rows ++ both_of l.falling_plain.items l.falling_modes.items ≡ in_one_list l.fn.plain l.fn.modes;
}

abbrev pub decreases-loop-row : goal.decreases-loop-row
decreases-loop-row l = vec_len l.falling_plain + vec_len l.falling_modes
