use Rattle.std.proofs.Common.{◌≡◌, take}
use Rattle.fs_ident.specs.Maps.{map_of}
use Rattle.fs_record.specs.Applied.{records_after_all}
use Rattle.fs_record.specs.Undo.{undos_of}
use Rattle.fs_record.proofs.together.apply_all.Given as goal

abbrev pub invariant-loop-e : goal.invariant-loop-e
invariant-loop-e l = record {
  done : map_of l.records ≡ records_after_all (map_of l.initial.records) (take l.e-index l.effects);
  noted : l.undos.items ≡ undos_of (map_of l.initial.records) (take l.e-index l.effects);
}
