use Rattle.std.proofs.Common.{◌≡◌, ◌++◌}
use Rattle.fs_ident.specs.Maps.{map_of}
use Rattle.fs_record.specs.Moving.{records_given}
use Rattle.fs_record.specs.Walk.{given_from}
use Rattle.fs_record.proofs.moving.given.Given as goal

abbrev pub invariant-loop-entry : goal.invariant-loop-entry
invariant-loop-entry l = l.moved ++ given_from l.piece.prefix l.piece.given l.entry-iterator ≡ records_given l.piece.prefix l.piece.given (map_of l.records)
