use Rattle.fs_view.proofs.Reading.{none_read}
use Rattle.fs_view.proofs.law.reads_have_no_effects.Goals as goal

pub returns : goal.returns
returns c = none_read
