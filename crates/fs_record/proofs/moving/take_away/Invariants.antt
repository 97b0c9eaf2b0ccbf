use Rattle.std.proofs.Common.{◌≡◌, vec_len}
use Rattle.fs_ident.specs.Maps.{map_of}
use Rattle.fs_record.specs.Walk.{taken_back}
use Rattle.fs_record.proofs.moving.take_away.Given as goal

abbrev pub invariant-loop-file : goal.invariant-loop-file
invariant-loop-file l = taken_back l.came.items (map_of l.records) ≡ taken_back l.fn.came.items (map_of l.initial.records)

abbrev pub decreases-loop-file : goal.decreases-loop-file
decreases-loop-file l = vec_len l.came
