use Rattle.fs_moderows.proofs.Promises.{kept_free}
use Rattle.fs_moderows.proofs.law.kept_promises_are_without_conflict.Goals as goal

pub returns : goal.returns
returns c selves rows t = kept_free selves rows t.on_modes
