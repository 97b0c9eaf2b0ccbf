use Rattle.std.proofs.Common.{◌∙◌, arith, sym, rules}
use Rattle.fs_record.proofs.Rising.{names_on}
use Rattle.fs_record.proofs.in_order.names_rise_from.Goals as goal

pub loop-name-preserved : goal.loop-name-preserved
loop-name-preserved c = sym (names_on _ _ c.loop-name.name-index c.loop-name-item.result (omega arith) c.loop-name-item.is (search rules)) ∙ c.loop-name.invariant
