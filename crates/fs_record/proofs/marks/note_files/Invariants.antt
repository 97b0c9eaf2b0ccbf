use Rattle.std.proofs.Common.{drop}
use Rattle.fs_ident.specs.Maps.{map_of}
use Rattle.fs_record.proofs.Marked.{IsNoting}
use Rattle.fs_record.proofs.marks.note_files.Given as goal

abbrev pub invariant-loop-file : goal.invariant-loop-file
invariant-loop-file l =
    IsNoting (map_of l.initial.marks) l.files l.files (map_of l.marks) (drop l.file-index l.files) (drop l.file-index l.files)
