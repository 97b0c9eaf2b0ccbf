use Rattle.std.proofs.Common.{◌≡◌, ◌+◌, [], ◌∷◌, drop, sym, subst}
use Rattle.fs_ident.specs.Maps.{map_of}
use Rattle.fs_map.proofs.Changing.{next_item}
use Rattle.fs_field.specs.After.{changed_file}
use Rattle.fs_record.specs.Marks.{AreBetween, changed_files, opened_by}
use Rattle.fs_record.proofs.Marked.{IsNoting, noting_next, between_few, opened_next}
use Rattle.fs_record.proofs.marks.note_all.Goals as goal

pub returns-in_err-note_opened-clause-between : goal.returns-in_err-note_opened-clause-between
returns-in_err-note_opened-clause-between c =
    let i = c.loop-e.e-index in
    let all = c.args.effects.now in
    let e = c.e-item.result in
    let now = map_of c.loop-e.marks in
    let new = map_of c.note_opened.new.marks in
    let next : drop i all ≡ e ∷ drop (i + 1) all = next_item all i e c.loop-e-test.true c.e-item.is in
    c.loop-e.invariant.between new (subst (λ es. AreBetween now new (changed_files es)) (sym next) (between_few now new (changed_file e) (changed_files (drop (i + 1) all)) c.note_opened.ensures.between))

pub loop-e-preserved : goal.loop-e-preserved
loop-e-preserved c =
    let i = c.loop-e.e-index in
    let all = c.args.effects.now in
    let e = c.e-item.result in
    let rest = drop (i + 1) all in
    let old = map_of c.args.marks.now in
    let now = map_of c.loop-e.marks in
    let next : drop i all ≡ e ∷ rest = next_item all i e c.loop-e-test.true c.e-item.is in
    let own = subst (λ es. IsNoting old (changed_files all) (opened_by all) now (changed_files es) (opened_by es)) next c.loop-e.invariant in
    noting_next old (changed_files all) (opened_by all) now (map_of c.note_opened.new.marks) (changed_file e) (changed_files rest) (opened_by (e ∷ [])) (opened_by rest)
    (subst (IsNoting old (changed_files all) (opened_by all) now (changed_files (e ∷ rest))) (opened_next e rest) own)
    c.note_opened.ensures.between c.in_ok-note_opened.ensures.marked
