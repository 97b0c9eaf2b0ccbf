use Rattle.fs_view.proofs.Led.{deletes}
use Rattle.fs_view.proofs.law.deletes_are_the_step.Goals as goal

pub returns : goal.returns
returns c = deletes
