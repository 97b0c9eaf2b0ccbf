use Rattle.std.proofs.Common.{◌≡◌, drop}
use Rattle.fs_window.specs.Touched.{has_place}
use Rattle.fs_window.proofs.touched.has_place.Given as goal

abbrev pub invariant-loop-place : goal.invariant-loop-place
invariant-loop-place l = has_place l.at (drop l.place-index l.places) ≡ has_place l.at l.places
