use Rattle.std.proofs.Common.{◌≡◌, ◌+◌, drop}
use Rattle.std.specs.List.{position_or_len}
use Rattle.fs_field.specs.Table.{no_before}
use Rattle.fs_moderows.proofs.index.place_for.Given as goal

abbrev pub invariant-loop-at : goal.invariant-loop-at
invariant-loop-at l = l.at + position_or_len (λ n. no_before l.no n) (drop l.at l.numbers) ≡ position_or_len (λ n. no_before l.no n) l.numbers
