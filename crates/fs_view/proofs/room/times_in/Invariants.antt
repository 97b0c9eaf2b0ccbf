use Rattle.std.proofs.Common.{◌≡◌, ◌≤◌, ◌+◌, drop}
use Rattle.fs_view.specs.Pins.{times_in}
use Rattle.fs_view.proofs.room.times_in.Given as goal

abbrev pub invariant-loop-u : goal.invariant-loop-u
invariant-loop-u l = record {
  most : l.times ≤ l.u-index;
  counted : l.times + times_in l.no (drop l.u-index l.uses) ≡ times_in l.no l.uses;
}
