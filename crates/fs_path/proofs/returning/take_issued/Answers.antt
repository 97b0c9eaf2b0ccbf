use Rattle.std.proofs.Common.{ap, subst, sym, ◌∙◌}
use Rattle.std.specs.Prelude.{Some}
use Rattle.fs_path.specs.Index.{ChangesAmong, IsOver, is_numbered, no_of_issued, without_named}
use Rattle.fs_path.specs.Leases.{PathLease, has_no}
use Rattle.fs_path.proofs.Over.{forgot_over, over_rises}
use Rattle.fs_path.proofs.Rising.{at_number, find_none, find_place, gone_there, none_go, placed_any}
use Rattle.fs_path.proofs.returning.take_issued.Goals as goal

pub forget-requires : goal.forget-requires
forget-requires c = over_rises c.args.over.now c.args.issued.now.items c.requires.index c.requires.whole

pub returns-in-Some-clause-issued : goal.returns-in-Some-clause-issued
returns-in-Some-clause-issued c =
    let there = at_number (is_numbered no_of_issued c.args.no) c.args.issued.now.items c.in-Some.at c.remove-l.result (rw c.deref.ensures.value at c.in-Some.ensures) in
    c.remove-l.ensures.items ∙ gone_there no_of_issued c.args.no c.args.issued.now.items c.in-Some.at c.remove-l.result ((c.requires.index c.requires.whole).0) there.0 there.1

pub returns-in-Some-clause-index : goal.returns-in-Some-clause-index
returns-in-Some-clause-index c =
    let there = at_number (is_numbered no_of_issued c.args.no) c.args.issued.now.items c.in-Some.at c.remove-l.result (rw c.deref.ensures.value at c.in-Some.ensures) in
    let path = c.as_slice.ensures ∙ c.path.ensures ∙ ap (λ (l : PathLease). l.path) c.remove-l.ensures.value in
    let changed = subst (λ files. ChangesAmong (without_named c.args.no) files c.args.over.now.files c.forget.new.self.files) path c.forget.ensures.files in
    subst (λ ls. IsOver c.forget.new.self ls) (sym c.remove-l.ensures.items)
    (forgot_over c.args.no c.args.issued.now.items c.in-Some.at c.remove-l.result c.args.over.now c.forget.new.self c.requires.index c.requires.whole there.0 there.1 c.forget.ensures.whole changed)

pub returns-in-None-clause-issued : goal.returns-in-None-clause-issued
returns-in-None-clause-issued c = sym (none_go no_of_issued c.args.no c.args.issued.now.items (sym (placed_any (is_numbered no_of_issued c.args.no) c.args.issued.now.items _ (rw c.deref.ensures.value at c.in-None.ensures))))

pub returns-in-Some-clause-taken : goal.returns-in-Some-clause-taken
returns-in-Some-clause-taken c = ap Some c.remove-l.ensures.value ∙ sym (find_place (has_no c.args.no) c.args.issued.now.items c.in-Some.at c.remove-l.result (rw c.deref.ensures.value at c.in-Some.ensures))

pub returns-in-None-clause-taken : goal.returns-in-None-clause-taken
returns-in-None-clause-taken c = sym (find_none (has_no c.args.no) c.args.issued.now.items (rw c.deref.ensures.value at c.in-None.ensures))
