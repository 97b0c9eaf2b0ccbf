use Rattle.std.proofs.Common.{◌≡◌, ◌+◌, drop}
use Rattle.std.specs.List.{position_or_len}
use Rattle.fs_field.specs.After.{is_before}
use Rattle.fs_field.proofs.names.place.Given as goal

abbrev pub invariant-loop-at : goal.invariant-loop-at
invariant-loop-at l = l.at + position_or_len (is_before l.name) (drop l.at l.names) ≡ position_or_len (is_before l.name) l.names
