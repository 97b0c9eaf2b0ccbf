use Rattle.fs_field.proofs.Conflicts.{as_false}
use Rattle.fs_field.proofs.law.no_promise_is_as_false.Goals as goal

pub returns : goal.returns
returns c = as_false
