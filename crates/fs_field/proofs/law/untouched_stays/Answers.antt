use Rattle.fs_field.proofs.Untouched.{value_stays}
use Rattle.fs_field.proofs.law.untouched_stays.Goals as goal

pub returns : goal.returns
returns c = value_stays
