use Rattle.std.proofs.Common.{length}
use Rattle.fs_record.specs.Moving.{AreEachRecords}
use Rattle.tests_tables.proofs.parcel.are_records.Given as goal

-- those before are records
abbrev pub invariant-loop-first : goal.invariant-loop-first
invariant-loop-first l = AreEachRecords l.rest → AreEachRecords l.records

abbrev pub decreases-loop-first : goal.decreases-loop-first
decreases-loop-first l = length l.rest
