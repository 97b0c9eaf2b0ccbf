use Rattle.std.proofs.Common.{◌≡◌, ◌+◌, drop}
use Rattle.std.specs.List.{position_or_len}
use Rattle.fs_path.specs.Leases.{path_before}
use Rattle.fs_path.specs.Tables.{lease_of}
use Rattle.fs_path.proofs.entering.walk_held_place.Given as goal

abbrev pub invariant-loop-at : goal.invariant-loop-at
invariant-loop-at l = l.at + position_or_len (λ x. path_before l.no (lease_of x).no) (drop l.at l.held) ≡ position_or_len (λ x. path_before l.no (lease_of x).no) l.held
