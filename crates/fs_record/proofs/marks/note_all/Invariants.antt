use Rattle.std.proofs.Common.{drop}
use Rattle.fs_ident.specs.Maps.{map_of}
use Rattle.fs_record.specs.Marks.{changed_files, opened_by}
use Rattle.fs_record.proofs.Marked.{IsNoting}
use Rattle.fs_record.proofs.marks.note_all.Given as goal

abbrev pub invariant-loop-e : goal.invariant-loop-e
invariant-loop-e l =
    IsNoting (map_of l.initial.marks) (changed_files l.effects) (opened_by l.effects)
    (map_of l.marks) (changed_files (drop l.e-index l.effects)) (opened_by (drop l.e-index l.effects))
