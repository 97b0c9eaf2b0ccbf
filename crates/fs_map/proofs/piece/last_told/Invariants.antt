use Rattle.std.proofs.Common.{◌≡◌, drop}
use Rattle.fs_map.specs.Map.{told_of, or_before}
use Rattle.fs_map.proofs.piece.last_told.Given as goal

-- what is left, and else the last one so far
abbrev pub invariant-loop-prefix : goal.invariant-loop-prefix
invariant-loop-prefix l = or_before (told_of (drop l.prefix-index l.given) l.id) l.last ≡ told_of l.given l.id
