use Rattle.std.proofs.Common.{◌∙◌, arith, sym, rules}
use Rattle.fs_map.proofs.Testing.{rises_on}
use Rattle.fs_map.proofs.piece.rises_from.Goals as goal

pub loop-place-preserved : goal.loop-place-preserved
loop-place-preserved c = sym (rises_on _ _ c.loop-place.place-index c.loop-place-item.result (omega arith) c.loop-place-item.is (search rules)) ∙ c.loop-place.invariant
