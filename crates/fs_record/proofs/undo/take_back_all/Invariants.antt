use Rattle.std.proofs.Common.{◌≡◌, vec_len}
use Rattle.fs_ident.specs.Maps.{map_of}
use Rattle.fs_record.specs.Undo.{undone_all, AreRecordsBack}
use Rattle.fs_record.proofs.undo.take_back_all.Given as goal

abbrev pub invariant-loop-u : goal.invariant-loop-u
invariant-loop-u l = record {
  back : AreRecordsBack l.undos.items (map_of l.records);
  same : undone_all l.undos.items (map_of l.records) ≡ undone_all l.fn.undos.items (map_of l.initial.records);
}

abbrev pub decreases-loop-u : goal.decreases-loop-u
decreases-loop-u l = vec_len l.undos
