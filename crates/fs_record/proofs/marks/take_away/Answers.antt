use Rattle.std.proofs.Common.{[], ◌∷◌, ◌∙◌, ap, sym, subst}
use Rattle.fs_ident.specs.Maps.{map_of}
use Rattle.fs_field.specs.After.{changed_file}
use Rattle.fs_record.specs.Marks.{MarkOpen, settled}
use Rattle.fs_record.proofs.Marked.{taken_marks, settled_one}
use Rattle.fs_record.proofs.marks.take_away.Goals as goal

pub returns-clause-marks : goal.returns-clause-marks
returns-clause-marks c =
    let e = c.args.e.now in
    let marks = map_of c.args.marks.now in
    let m = map_of c.take_away.new.records in
    settled_one (changed_file e) marks (map_of c.settle.new.marks) m (c.settle.ensures ∙ ap (settled m marks) c.changed_file.ensures)
    (subst (MarkOpen (changed_file e ∷ []) marks) (sym c.take_away.ensures) (taken_marks e marks (map_of c.args.records.now) c.requires.removal c.requires.marks))
