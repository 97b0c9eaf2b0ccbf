use Rattle.std.proofs.Common.{◌≡◌, ◌+◌, [], ◌∷◌, drop, sym, subst}
use Rattle.fs_ident.specs.Maps.{map_of}
use Rattle.fs_map.proofs.Changing.{next_item}
use Rattle.fs_record.specs.Marks.{AreBetween, AreMarked}
use Rattle.fs_record.proofs.Marked.{IsNoting, noting_next, between_marked, noted_open}
use Rattle.fs_record.proofs.marks.note_files.Goals as goal

pub loop-file-preserved : goal.loop-file-preserved
loop-file-preserved c =
    let i = c.loop-file.file-index in
    let all = c.args.files.now in
    let file = c.file-item.result in
    let old = map_of c.args.marks.now in
    let now = map_of c.loop-file.marks in
    let next : drop i all ≡ file ∷ drop (i + 1) all = next_item all i file c.loop-file-test.true c.file-item.is in
    noting_next old all all now (map_of c.note.new.marks) file (drop (i + 1) all) (file ∷ []) (drop (i + 1) all)
    (subst (λ xs. IsNoting old all all now xs xs) next c.loop-file.invariant)
    (subst (λ q. AreBetween now q (file ∷ [])) (sym c.in_ok-note.ensures.ok) (between_marked now file))
    (subst (AreMarked (file ∷ [])) (sym c.in_ok-note.ensures.ok) (noted_open now file))
