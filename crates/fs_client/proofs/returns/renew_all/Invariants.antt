use Rattle.std.proofs.Common.{◌≡◌, drop}
use Rattle.fs_client.specs.Client.{renewed_all}
use Rattle.fs_client.proofs.returns.renew_all.Given as goal

abbrev pub invariant-loop-end : goal.invariant-loop-end
invariant-loop-end l = renewed_all (drop l.end-index l.ends) l.view ≡ renewed_all l.ends l.initial.view
