use Rattle.std.proofs.Common.{ap, subst, sym, ◌∙◌}
use Rattle.std.specs.Prelude.{slice_set}
use Rattle.fs_path.specs.Index.{IsHad, is_numbered, no_of_held}
use Rattle.fs_path.specs.Returns.{is_needed}
use Rattle.fs_path.specs.Tables.{leaving}
use Rattle.fs_path.proofs.Own.{leaving_had, left_there, none_there, went_there}
use Rattle.fs_path.proofs.Rising.{at_number}
use Rattle.fs_path.proofs.giving.give_found_back.Goals as goal

pub returns-then-is_needed-clause-held : goal.returns-then-is_needed-clause-held
returns-then-is_needed-clause-held c =
    let held = c.args.held.now.items in
    let there = at_number (is_numbered no_of_held c.args.no) held c.in-Some.at c.index.result.now (rw c.deref.ensures.value at c.in-Some.ensures) in
    let needed = sym (ap (is_needed c.args.issued.now) c.index.ensures) ∙ sym c.is_needed.ensures ∙ c.if-is_needed.true in
    c.leave_at.ensures.set c.index.result.now c.index.ensures
    ∙ ap (λ h. slice_set held c.in-Some.at (leaving h)) c.index.ensures
    ∙ sym (left_there c.args.no c.args.issued.now held c.in-Some.at c.index.result.now c.requires.rising there.0 there.1 needed)

pub returns-then-is_needed-clause-had : goal.returns-then-is_needed-clause-had
returns-then-is_needed-clause-had c =
    subst (λ hs. IsHad c.args.had.now hs) (sym (c.leave_at.ensures.set c.index.result.now c.index.ensures))
    (leaving_had c.args.held.now.items c.in-Some.at c.index.result.now c.args.had.now c.requires.had c.index.ensures)

pub returns-else-is_needed-clause-held : goal.returns-else-is_needed-clause-held
returns-else-is_needed-clause-held c =
    let held = c.args.held.now.items in
    let there = at_number (is_numbered no_of_held c.args.no) held c.in-Some.at c.index.result.now (rw c.deref.ensures.value at c.in-Some.ensures) in
    let needed = sym (ap (is_needed c.args.issued.now) c.index.ensures) ∙ sym c.is_needed.ensures ∙ c.if-is_needed.false in
    c.drop_held.ensures.held ∙ sym (went_there c.args.no c.args.issued.now held c.in-Some.at c.index.result.now c.requires.rising there.0 there.1 needed)

pub returns-in-None-clause-held : goal.returns-in-None-clause-held
returns-in-None-clause-held c = sym (none_there c.args.no c.args.issued.now c.args.held.now.items (rw c.deref.ensures.value at c.in-None.ensures))
