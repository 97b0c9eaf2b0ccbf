use Rattle.std.proofs.Common.{◌≡◌, ◌++◌, length}
use Rattle.fs_frag.specs.Cut.{pieces, piece_count}
use Rattle.fs_frag.proofs.cutting.add_pieces.Given as goal

-- what is there, and then the pieces of what is left, are what was there and all pieces
abbrev pub invariant-loop-rest : goal.invariant-loop-rest
invariant-loop-rest l = l.segments ++ pieces (piece_count (length l.rest)) l.rest ≡ l.initial.segments ++ pieces (piece_count (length l.bytes)) l.bytes

abbrev pub decreases-loop-rest : goal.decreases-loop-rest
decreases-loop-rest l = length l.rest
