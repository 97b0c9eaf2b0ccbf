use Rattle.std.proofs.Common.{◌∙◌, [], ◌∷◌, ap, sym, subst}
use Rattle.fs_ident.specs.Maps.{map_of}
use Rattle.fs_field.specs.After.{changed_file}
use Rattle.fs_record.specs.Marks.{MarkOpen, settled}
use Rattle.fs_record.proofs.Marked.{applied_marks, vain_marks, settled_one}
use Rattle.fs_record.proofs.marks.apply.Goals.{in-Ok, in-Err}
use Rattle.fs_record.proofs.marks.apply.Goals as goal

pub returns-clause-marks : goal.returns-clause-marks
returns-clause-marks c =
    let e = c.args.e.now in
    let old = map_of c.args.marks.now in
    let new = map_of c.note_opened.new.marks in
    let m = map_of c.args.records.now in
    let own : MarkOpen (changed_file e ∷ []) new (map_of c.match-note_opened.records) = elim c.match-note_opened.branch [
      | in-Ok w ↦ subst (λ rs. MarkOpen (changed_file e ∷ []) new (map_of rs)) (sym w.records-is) (applied_marks w.apply-done.result (e ∷ []) old new m (map_of w.apply-done.new.records) c.requires.marks c.note_opened.ensures.between w.in-Ok.ensures.marked w.apply-done.ensures.ok w.apply-done.ensures.err)
      | in-Err w ↦ subst (λ rs. MarkOpen (changed_file e ∷ []) new (map_of rs)) (sym w.records-is) (vain_marks (changed_file e ∷ []) old new m c.requires.marks c.note_opened.ensures.between)
    ] in
    settled_one (changed_file e) new (map_of c.settle.new.marks) (map_of c.match-note_opened.records) (c.settle.ensures ∙ ap (settled (map_of c.match-note_opened.records) new) c.changed_file.ensures) own
