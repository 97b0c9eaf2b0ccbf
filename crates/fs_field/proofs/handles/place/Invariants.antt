use Rattle.std.proofs.Common.{◌≡◌, ◌+◌, drop}
use Rattle.std.specs.List.{position_or_len}
use Rattle.fs_field.specs.After.{is_above}
use Rattle.fs_field.proofs.handles.place.Given as goal

abbrev pub invariant-loop-at : goal.invariant-loop-at
invariant-loop-at l = l.at + position_or_len (is_above l.h) (drop l.at l.handles) ≡ position_or_len (is_above l.h) l.handles
