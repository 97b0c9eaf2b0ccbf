use Rattle.std.proofs.Common.{◌≡◌, ◌++◌, drop}
use Rattle.fs_client.specs.Acts.{items_of}
use Rattle.fs_client.proofs.needs.items_of.Given as goal

abbrev pub invariant-loop-need : goal.invariant-loop-need
invariant-loop-need l = l.items ++ items_of (drop l.need-index l.needs) ≡ items_of l.needs
