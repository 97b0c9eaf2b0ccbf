use Rattle.std.proofs.Common.{◌≡◌, ◌≤◌, [], drop, length, take}
use Rattle.fs_client.specs.Answers.{front_fits}
use Rattle.fs_client.proofs.fits.front_fits.Given as goal

abbrev pub invariant-loop-done : goal.invariant-loop-done
invariant-loop-done l = record {
  within : l.done ≤ length l.items;
  same : front_fits (drop l.done l.items) l.at.view.leases (take l.done l.grants) (drop l.done l.grants) ≡ front_fits l.items l.at.view.leases [] l.grants;
}
