use Rattle.std.proofs.Common.{◌≡◌, ◌+◌, ◌^◌, ◌<◌, length}
use Rattle.fs_window.specs.LinkEnd.{without_hole}
use Rattle.fs_window.proofs.kept.front_len.Given as goal

-- what was passed, and what is left up to the first hole, are all of them
abbrev pub invariant-loop-slot : goal.invariant-loop-slot
invariant-loop-slot l = record {
  front : l.len + length (without_hole l.slot-iterator) ≡ length (without_hole l.kept);
  all : l.len + length l.slot-iterator ≡ length l.kept;
  few : length l.kept < 2 ^ 63;
}
