use Rattle.std.proofs.Common.{◌≡◌, ◌++◌, take, drop}
use Rattle.fs_window.specs.Touched.{with_place}
use Rattle.fs_window.proofs.touched.gap_for.Given as goal

-- it goes among those that are left
abbrev pub invariant-loop-i : goal.invariant-loop-i
invariant-loop-i l = take l.i l.places ++ with_place l.at (drop l.i l.places) ≡ with_place l.at l.places
