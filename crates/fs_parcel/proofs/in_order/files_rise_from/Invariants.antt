use Rattle.std.proofs.Common.{◌≡◌, drop}
use Rattle.std.specs.Prelude.{◌&&◌}
use Rattle.std.specs.Cmp.Lexicographic.{slice_cmp}
use Rattle.std.specs.FinMap.Entries.{below_all}
use Rattle.std.specs.Ordering.{nat_cmp}
use Rattle.fs_ident.specs.Ordered.{are_keys_in_order}
use Rattle.fs_parcel.proofs.in_order.files_rise_from.Given as goal

-- what is left after the last one answers for all
abbrev pub invariant-loop-file : goal.invariant-loop-file
invariant-loop-file l =
    (below_all (slice_cmp nat_cmp) l.last (drop l.file-index l.rest) && are_keys_in_order (drop l.file-index l.rest)) ≡ (below_all (slice_cmp nat_cmp) l.first l.rest && are_keys_in_order l.rest)
