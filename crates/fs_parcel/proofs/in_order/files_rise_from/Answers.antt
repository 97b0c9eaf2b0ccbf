use Rattle.std.proofs.Common.{◌∙◌, arith, sym, rules}
use Rattle.fs_record.proofs.Rising.{names_on}
use Rattle.fs_parcel.proofs.in_order.files_rise_from.Goals as goal

pub loop-file-preserved : goal.loop-file-preserved
loop-file-preserved c = sym (names_on _ _ c.loop-file.file-index c.loop-file-item.result (omega arith) c.loop-file-item.is (search rules)) ∙ c.loop-file.invariant
