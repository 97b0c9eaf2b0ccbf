use Rattle.fs_world.proofs.Bounded.{no_counter_is_spent}
use Rattle.fs_world.proofs.law.no_short_run_is_spent.Goals as goal

pub returns : goal.returns
returns c = no_counter_is_spent
