use Rattle.fs_moderows.proofs.Promises.{promise_is}
use Rattle.fs_moderows.proofs.law.promises_are_what_others_have.Goals as goal

pub returns : goal.returns
returns c = promise_is
