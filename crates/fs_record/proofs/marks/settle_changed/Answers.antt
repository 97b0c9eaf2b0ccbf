use Rattle.std.proofs.Common.{◌≡◌, ◌∙◌, ◌+◌, ◌∷◌, ap, drop, sym, subst}
use Rattle.std.proofs.lemmas.List.{drop_all}
use Rattle.fs_ident.specs.Maps.{map_of}
use Rattle.fs_map.proofs.Changing.{next_item}
use Rattle.fs_field.specs.After.{changed_file}
use Rattle.fs_record.specs.Marks.{MarkOpen, changed_files, settled}
use Rattle.fs_record.proofs.Marked.{settled_open}
use Rattle.fs_record.proofs.marks.settle_changed.Goals as goal

pub loop-e-preserved : goal.loop-e-preserved
loop-e-preserved c =
    let i = c.loop-e.e-index in
    let all = c.args.effects.now in
    let m = map_of c.args.records.now in
    let next : drop i all ≡ c.e-item.result ∷ drop (i + 1) all = next_item all i c.e-item.result c.loop-e-test.true c.e-item.is in
    let own = subst (λ xs. MarkOpen (changed_files xs) (map_of c.loop-e.marks) m) next c.loop-e.invariant in
    subst (λ marks. MarkOpen (changed_files (drop (i + 1) all)) marks m) (sym (c.settle.ensures ∙ ap (settled m (map_of c.loop-e.marks)) c.changed_file.ensures)) (settled_open (changed_file c.e-item.result) (changed_files (drop (i + 1) all)) (map_of c.loop-e.marks) m own)

pub returns : goal.returns
returns c = subst (λ xs. MarkOpen (changed_files xs) (map_of c.loop-e.marks) (map_of c.args.records.now)) (drop_all c.loop-e.e-index c.args.effects.now c.loop-e-test.false) c.loop-e.invariant
