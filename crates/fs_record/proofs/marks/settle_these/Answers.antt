use Rattle.std.proofs.Common.{◌≡◌, ◌+◌, ◌∷◌, drop, sym, subst}
use Rattle.std.proofs.lemmas.List.{drop_all}
use Rattle.fs_ident.specs.Maps.{map_of}
use Rattle.fs_map.proofs.Changing.{next_item}
use Rattle.std.specs.Map.{keys_of}
use Rattle.fs_record.specs.Marks.{MarkOpen}
use Rattle.fs_record.proofs.Marked.{settled_open}
use Rattle.fs_record.proofs.marks.settle_these.Goals as goal

pub loop-file-preserved : goal.loop-file-preserved
loop-file-preserved c =
    let i = c.loop-file.file-index in
    let all = c.args.moved.now in
    let m = map_of c.args.records.now in
    let next : drop i all ≡ c.loop-file-item.result ∷ drop (i + 1) all = next_item all i c.loop-file-item.result c.loop-file-test.true c.loop-file-item.is in
    let own = subst (λ xs. MarkOpen (keys_of xs) (map_of c.loop-file.marks) m) next c.loop-file.invariant in
    subst (λ marks. MarkOpen (keys_of (drop (i + 1) all)) marks m) (sym c.settle.ensures) (settled_open c.loop-file-item.result.0 (keys_of (drop (i + 1) all)) (map_of c.loop-file.marks) m own)

pub returns : goal.returns
returns c = subst (λ xs. MarkOpen (keys_of xs) (map_of c.loop-file.marks) (map_of c.args.records.now)) (drop_all c.loop-file.file-index c.args.moved.now c.loop-file-test.false) c.loop-file.invariant
