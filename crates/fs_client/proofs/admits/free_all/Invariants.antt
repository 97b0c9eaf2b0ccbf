use Rattle.std.proofs.Common.{◌≡◌, drop}
use Rattle.fs_client.specs.Admitted.{freed}
use Rattle.fs_client.proofs.admits.free_all.Given as goal

abbrev pub invariant-loop-entry : goal.invariant-loop-entry
invariant-loop-entry l = freed (drop l.entry-index l.entries) l.view ≡ freed l.entries l.initial.view
