use Rattle.std.proofs.Common.{◌≡◌, drop}
use Rattle.fs_client.specs.Client.{leaving_all}
use Rattle.fs_client.proofs.returns.leave_all.Given as goal

abbrev pub invariant-loop-no : goal.invariant-loop-no
invariant-loop-no l = leaving_all (drop l.no-index l.numbers) l.view ≡ leaving_all l.numbers l.initial.view
