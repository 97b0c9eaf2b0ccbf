use Rattle.fs_view.proofs.Led.{renames}
use Rattle.fs_view.proofs.law.renames_are_the_step.Goals as goal

pub returns : goal.returns
returns c = renames
