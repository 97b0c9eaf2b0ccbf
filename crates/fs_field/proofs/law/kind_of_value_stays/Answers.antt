use Rattle.fs_field.proofs.Untouched.{same_variant}
use Rattle.fs_field.proofs.law.kind_of_value_stays.Goals as goal

pub returns : goal.returns
returns c = same_variant
