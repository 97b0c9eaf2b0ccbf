use Rattle.std.proofs.Common.{◌≡◌, drop}
use Rattle.std.specs.Map.{keys_of}
use Rattle.fs_ident.specs.Maps.{map_of}
use Rattle.fs_record.specs.Moving.{records_without}
use Rattle.fs_record.proofs.moving.leave_these.Given as goal

abbrev pub invariant-loop-file : goal.invariant-loop-file
invariant-loop-file l = records_without (keys_of (drop l.file-index l.moved)) (map_of l.records) ≡ records_without (keys_of l.moved) (map_of l.initial.records)
