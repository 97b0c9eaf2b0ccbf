use Rattle.std.proofs.Common.{subst, sym, ◌∙◌}
use Rattle.fs_path.specs.Index.{IsNewAmong, IsNoted, IsOver, no_of_issued}
use Rattle.fs_path.specs.Leases.{named_to_peer}
use Rattle.fs_path.proofs.Over.{noted_over, over_rises}
use Rattle.fs_path.proofs.entering.issue.Goals as goal

pub note-requires : goal.note-requires
note-requires c = λ w. over_rises c.args.over.now c.args.issued.now.items c.requires.index w

pub returns-clause-index : goal.returns-clause-index
returns-clause-index c =
    let is_new = c.is_new_among-is_new.result in
    let among = subst (λ ls. IsNewAmong no_of_issued c.named_to_peer-name.result.1 ls is_new) c.deref.ensures.value c.is_new_among-is_new.ensures in
    let fresh = subst (λ name. IsNewAmong no_of_issued name.1 c.args.issued.now.items is_new) c.named_to_peer-name.ensures among in
    let named = subst (λ name. IsNoted is_new name c.as_slice.result.now c.args.over.now c.note.new.self) c.named_to_peer-name.ensures c.note.ensures in
    let noted = subst (λ files. IsNoted is_new (named_to_peer c.args.l) files c.args.over.now c.note.new.self) (c.as_slice.ensures ∙ c.requires.path) named in
    subst (λ ls. IsOver c.note.new.self ls) (sym c.in_ok-put_issued.ensures.ok) (noted_over c.args.l is_new c.args.issued.now.items c.args.over.now c.note.new.self c.requires.index fresh noted)
