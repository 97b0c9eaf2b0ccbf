use Rattle.fs_frag.proofs.Pieces.{first_and_rest}
use Rattle.fs_frag.proofs.cutting.cut.Goals as goal

pub returns : goal.returns
returns c = rw (c.in_ok-add_pieces.ensures, c.in_ok-push.ensures.ok, c.new-segments.ensures, c.in_ok-behind_length.ensures, c.split_at.ensures.front, c.split_at.ensures.back) (first_and_rest c.args.message.now c.min.result c.min.ensures)
