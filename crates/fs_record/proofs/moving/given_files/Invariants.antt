use Rattle.std.proofs.Common.{◌≡◌, ◌++◌}
use Rattle.std.specs.Map.{keys_of}
use Rattle.fs_ident.specs.Maps.{map_of}
use Rattle.fs_record.specs.Moving.{records_given}
use Rattle.fs_record.specs.Walk.{given_from}
use Rattle.fs_record.proofs.moving.given_files.Given as goal

abbrev pub invariant-loop-entry : goal.invariant-loop-entry
invariant-loop-entry l = l.files ++ keys_of (given_from l.piece.prefix l.piece.given l.entry-iterator) ≡ keys_of (records_given l.piece.prefix l.piece.given (map_of l.records))
