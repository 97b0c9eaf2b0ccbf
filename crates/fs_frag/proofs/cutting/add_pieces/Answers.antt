use Rattle.std.proofs.Common.{◌≡◌, ◌≤◌, ◌∙◌, length, take, rules}
use Rattle.fs_frag.proofs.Pieces.{pieces_step}
use Rattle.fs_frag.proofs.cutting.add_pieces.Goals as goal

pub loop-rest-preserved : goal.loop-rest-preserved
loop-rest-preserved c =
    let some : 1 ≤ length c.loop-rest.rest.now = search rules in
    let piece : c.in-Some.segment ≡ take c.min.result c.loop-rest.rest.now = (rw c.in-Some.is at c.in_ok-segment.ensures.some) ∙ c.split_at.ensures.front in
    rw (c.in_ok-push-in-Some.ensures.ok, piece, c.split_at.ensures.back) (pieces_step c.loop-rest.segments c.loop-rest.rest.now c.min.result _ some c.min.ensures c.loop-rest.invariant)
