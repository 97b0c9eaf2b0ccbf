use Rattle.std.proofs.Common.{subst, sym, ◌∙◌, ◌∷◌, []}
use Rattle.fs_path.specs.Index.{IsHad, IsNewAmong, IsNoted, no_of_held}
use Rattle.fs_path.specs.Leases.{named_to_peer}
use Rattle.fs_path.specs.Tables.{lease_of}
use Rattle.fs_path.proofs.Own.{noted_had, own_names_rise, own_rises, via_names_rise}
use Rattle.fs_path.proofs.entering.take_held.Goals as goal

pub put_held-requires : goal.put_held-requires
put_held-requires c = λ w. own_rises c.args.had.now.own c.args.held.now.items c.requires.index.0 (sym c.is_whole.ensures ∙ w)

pub note-requires-clause-own : goal.note-requires-clause-own
note-requires-clause-own c = λ w. own_names_rise c.args.had.now.own c.args.held.now.items c.requires.index.0 w

pub note-requires-clause-via : goal.note-requires-clause-via
note-requires-clause-via c = λ w. via_names_rise c.args.had.now.via c.args.held.now.items c.requires.index.1 w

pub returns-clause-index : goal.returns-clause-index
returns-clause-index c =
    let new = c.args.h in
    let is_new = c.is_new_held-is_new.result in
    let old = c.args.had.now in
    let now = c.note.new.self in
    let among = subst (λ ls. IsNewAmong no_of_held c.named_to_peer-name.result.1 ls is_new) c.deref.ensures.value c.is_new_held-is_new.ensures in
    let fresh = subst (λ name. IsNewAmong no_of_held name.1 c.args.held.now.items is_new) c.named_to_peer-name.ensures among in
    let own_named = subst (λ name. IsNoted is_new name (c.args.file.now ∷ []) old.own now.own) c.named_to_peer-name.ensures c.note.ensures.own in
    let own = subst (λ file. IsNoted is_new (named_to_peer (lease_of new)) (file ∷ []) old.own now.own) c.requires.file own_named in
    let via_named = subst (λ name. IsNoted is_new name c.args.path.now old.via now.via) c.named_to_peer-name.ensures c.note.ensures.via in
    let via = subst (λ files. IsNoted is_new (named_to_peer (lease_of new)) files old.via now.via) c.requires.path via_named in
    subst (λ hs. IsHad now hs) (sym c.in_ok-put_held.ensures.ok) (noted_had new is_new c.args.held.now.items old now c.requires.index fresh own via)
