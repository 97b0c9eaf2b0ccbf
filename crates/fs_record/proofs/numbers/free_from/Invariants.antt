use Rattle.std.proofs.Common.{◌≡◌, ◌-◌}
use Rattle.fs_record.specs.Fresh.{least_free, free_from}
use Rattle.fs_record.proofs.numbers.free_from.Given as goal

abbrev pub invariant-loop-k : goal.invariant-loop-k
invariant-loop-k l = free_from l.next l.borne ≡ least_free (4294967296 - l.k) l.k l.borne
