use Rattle.std.proofs.Common.{◌≡◌, ◌==◌, drop}
use Rattle.std.specs.Prelude.{◌&&◌}
use Rattle.std.specs.List.{list_any}
use Rattle.fs_map.specs.Map.{gives, server_of}
use Rattle.fs_map.specs.Lists.{places_of}
use Rattle.fs_map.proofs.change.any_is_mine.Given as goal

-- what is left answers for all
abbrev pub invariant-loop-place : goal.invariant-loop-place
invariant-loop-place g l =
    list_any (λ id. gives l.piece.prefix l.piece.given id && (server_of l.owners id == l.me)) (places_of (drop l.place-index l.listed))
    ≡ list_any (λ id. gives l.piece.prefix l.piece.given id && (server_of l.owners id == l.me)) (places_of l.listed)
