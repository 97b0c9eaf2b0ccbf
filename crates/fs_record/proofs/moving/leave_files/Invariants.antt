use Rattle.std.proofs.Common.{◌≡◌, drop}
use Rattle.fs_ident.specs.Maps.{map_of}
use Rattle.fs_record.specs.Moving.{records_without}
use Rattle.fs_record.proofs.moving.leave_files.Given as goal

abbrev pub invariant-loop-gone : goal.invariant-loop-gone
invariant-loop-gone l = records_without (drop l.gone-index l.files) (map_of l.records) ≡ records_without l.files (map_of l.initial.records)
