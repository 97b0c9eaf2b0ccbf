use Rattle.fs_record.proofs.NumbersRise.{effect_next}
use Rattle.fs_record.proofs.law.effects_keep_next_numbers.Goals as goal

pub returns : goal.returns
returns c = effect_next
