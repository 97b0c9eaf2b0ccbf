use Rattle.std.proofs.Common.{◌≡◌, drop}
use Rattle.fs_client.specs.Acts.{fresh_asked}
use Rattle.fs_client.proofs.needs.fresh_asked.Given as goal

abbrev pub invariant-loop-need : goal.invariant-loop-need
invariant-loop-need l = fresh_asked l.needs ≡ fresh_asked (drop l.need-index l.needs)
