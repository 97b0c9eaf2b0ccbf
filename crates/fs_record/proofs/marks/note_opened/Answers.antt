use Rattle.std.proofs.Common.{◌∙◌, [], ◌∷◌, ap, sym, subst}
use Rattle.std.specs.FinMap.{insert}
use Rattle.fs_ident.specs.Maps.{map_of}
use Rattle.fs_field.specs.After.{changed_file}
use Rattle.fs_record.specs.Marks.{AreBetween, mark}
use Rattle.fs_record.proofs.Marked.{between_marked, opened_marked}
use Rattle.fs_record.proofs.marks.note_opened.Goals as goal

pub returns-in_ok-note-clause-between : goal.returns-in_ok-note-clause-between
returns-in_ok-note-clause-between c =
    let old = map_of c.args.marks.now in
    subst (λ q. AreBetween old q (changed_file c.args.e.now ∷ [])) (sym (c.in_ok-note.ensures.ok ∙ ap (λ f. insert old f mark) c.changed_file.ensures)) (between_marked old (changed_file c.args.e.now))

pub returns-in_ok-note-clause-marked : goal.returns-in_ok-note-clause-marked
returns-in_ok-note-clause-marked c =
    let old = map_of c.args.marks.now in
    opened_marked c.args.e.now old (map_of c.note.new.marks) (c.in_ok-note.ensures.ok ∙ ap (λ f. insert old f mark) c.changed_file.ensures)
