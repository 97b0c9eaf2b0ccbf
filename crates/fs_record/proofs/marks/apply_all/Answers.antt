use Rattle.std.proofs.Common.{sym, subst}
use Rattle.fs_ident.specs.Maps.{map_of}
use Rattle.fs_record.specs.Marks.{MarkOpen, changed_files}
use Rattle.fs_record.proofs.Marked.{applied_marks, vain_marks}
use Rattle.fs_record.proofs.marks.apply_all.Goals.{in-Ok, in-Err}
use Rattle.fs_record.proofs.marks.apply_all.Goals as goal

pub settle_changed-requires : goal.settle_changed-requires
settle_changed-requires c =
    let es = c.args.effects.now in
    let old = map_of c.args.marks.now in
    let new = map_of c.note_all.new.marks in
    let m = map_of c.args.records.now in
    elim c.match-note_all.branch [
      | in-Ok w ↦ subst (λ rs. MarkOpen (changed_files es) new (map_of rs)) (sym w.records-is) (applied_marks w.apply_all-done.result es old new m (map_of w.apply_all-done.new.records) c.requires.marks c.note_all.ensures.between w.in-Ok.ensures.marked w.apply_all-done.ensures.ok w.apply_all-done.ensures.err)
      | in-Err w ↦ subst (λ rs. MarkOpen (changed_files es) new (map_of rs)) (sym w.records-is) (vain_marks (changed_files es) old new m c.requires.marks c.note_all.ensures.between)
    ]
