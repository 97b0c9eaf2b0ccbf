use Rattle.std.proofs.Common.{◌≡◌, ◌-◌}
use Rattle.fs_wire.specs.Readers.{pair_at, many_at}
use Rattle.fs_wire.specs.Reading.{identifier_at}
use Rattle.fs_wire.proofs.Loop.{with_front}
use Rattle.fs_msg.specs.Reading.{record_at}
use Rattle.fs_msg.proofs.bytes.record.many_records_of.Given as goal

abbrev pub invariant-loop : goal.invariant-loop
invariant-loop l = with_front l.records (many_at (pair_at identifier_at record_at) (l.count - l.counter) l.rest) ≡ many_at (pair_at identifier_at record_at) l.count l.bytes
