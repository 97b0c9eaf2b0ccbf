use Rattle.std.proofs.Common.{arith}
use Rattle.fs_frag.proofs.Joins.{length-cut}
use Rattle.fs_frag.proofs.cutting.segment_count.Goals as goal

pub returns : goal.returns
returns c = omega (arith, c.div_ceil.ensures, length-cut c.args.message.now)
