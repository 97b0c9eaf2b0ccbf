use Rattle.std.proofs.Common.{◌≡◌, ◌∙◌, ap, sym, subst}
use Rattle.fs_ident.specs.Maps.{map_of}
use Rattle.fs_record.specs.Marks.{MarkOpen, AreBetween, AreMarked, open_among}
use Rattle.fs_record.proofs.Marked.{joined_marks, vain_marks}
use Rattle.fs_record.proofs.marks.join.Goals.{in-Ok, in-Err}
use Rattle.fs_record.proofs.marks.join.Goals as goal

pub settle_all-requires : goal.settle_all-requires
settle_all-requires c =
    let rs = c.args.more.items in
    let old = map_of c.args.marks.now in
    let new = map_of c.note_files.new.marks in
    let m = map_of c.args.records.now in
    let files : c.as_slice.result.now ≡ open_among rs = c.as_slice.ensures ∙ c.in_ok-opened.ensures ∙ ap open_among c.deref.ensures.value in
    let again : c.as_slice-2.result.now ≡ open_among rs = c.as_slice-2.ensures ∙ c.in_ok-opened.ensures ∙ ap open_among c.deref.ensures.value in
    let between = subst (AreBetween old new) files c.note_files.ensures.between in
    let own : MarkOpen (open_among rs) new (map_of c.match-note_files.records) = elim c.match-note_files.branch [
      | in-Ok w ↦ subst (λ records. MarkOpen (open_among rs) new (map_of records)) (sym w.records-is) (joined_marks w.join-done.result rs old new m (map_of w.join-done.new.records) c.requires.absent c.requires.marks between (subst (λ fs. AreMarked fs new) files w.in-Ok.ensures.marked) w.join-done.ensures.ok w.join-done.ensures.err)
      | in-Err w ↦ subst (λ records. MarkOpen (open_among rs) new (map_of records)) (sym w.records-is) (vain_marks (open_among rs) old new m c.requires.marks between)
    ] in
    subst (λ fs. MarkOpen fs new (map_of c.match-note_files.records)) (sym again) own
