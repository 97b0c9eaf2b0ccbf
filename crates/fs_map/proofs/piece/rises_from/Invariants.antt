use Rattle.std.proofs.Common.{◌≡◌, drop}
use Rattle.std.specs.Prelude.{◌&&◌}
use Rattle.fs_ident.specs.Ordered.{are_keys_in_order}
use Rattle.fs_map.specs.Change.{before_all}
use Rattle.fs_map.proofs.piece.rises_from.Given as goal

-- what is left after the last one answers for all
abbrev pub invariant-loop-place : goal.invariant-loop-place
invariant-loop-place l =
    (before_all l.last (drop l.place-index l.rest) && are_keys_in_order (drop l.place-index l.rest)) ≡ (before_all l.first l.rest && are_keys_in_order l.rest)
