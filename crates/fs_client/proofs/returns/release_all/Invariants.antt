use Rattle.std.proofs.Common.{◌≡◌, drop}
use Rattle.fs_client.specs.Client.{released_all}
use Rattle.fs_client.proofs.returns.release_all.Given as goal

abbrev pub invariant-loop-no : goal.invariant-loop-no
invariant-loop-no l = released_all (drop l.no-index l.numbers) l.view ≡ released_all l.numbers l.initial.view
