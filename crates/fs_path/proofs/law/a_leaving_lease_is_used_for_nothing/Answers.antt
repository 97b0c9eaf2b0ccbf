use Rattle.fs_path.proofs.Walking.{leaving_for_nothing}
use Rattle.fs_path.proofs.law.a_leaving_lease_is_used_for_nothing.Goals as goal

pub returns : goal.returns
returns c = leaving_for_nothing
