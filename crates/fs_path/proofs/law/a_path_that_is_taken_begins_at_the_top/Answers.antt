use Rattle.fs_path.proofs.Walking.{taken}
use Rattle.fs_path.proofs.law.a_path_that_is_taken_begins_at_the_top.Goals as goal

pub returns : goal.returns
returns c = taken
