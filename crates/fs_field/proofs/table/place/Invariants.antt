use Rattle.std.proofs.Common.{◌≡◌, ◌+◌, drop}
use Rattle.std.specs.List.{position_or_len}
use Rattle.fs_field.specs.Table.{no_before}
use Rattle.fs_field.proofs.table.place.Given as goal

abbrev pub invariant-loop-at : goal.invariant-loop-at
invariant-loop-at l = l.at + position_or_len (λ r. no_before l.no r.no) (drop l.at l.rows) ≡ position_or_len (λ r. no_before l.no r.no) l.rows
