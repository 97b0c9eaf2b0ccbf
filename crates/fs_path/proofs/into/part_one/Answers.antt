use Rattle.std.proofs.Common.{◌≤◌, ◌∙◌, ap, arith, length, sym, take}
use Rattle.std.specs.List.{position}
use Rattle.fs_path.specs.Index.{is_numbered, no_of_held}
use Rattle.fs_path.specs.Into.{parts_at}
use Rattle.fs_path.proofs.GoingBehind.{part_gone, part_left, part_none}
use Rattle.fs_path.proofs.into.part_one.Goals as goal

pub returns-then-is_needed-clause-parts : goal.returns-then-is_needed-clause-parts
returns-then-is_needed-clause-parts c =
    let place = c.in-Some.ensures ∙ ap (λ hs. position (is_numbered no_of_held c.args.no) (take c.args.front hs)) c.deref.ensures.value in
    let within : c.args.front ≤ length c.args.held.now.items = omega (arith, c.requires.within, c.args.held.now.ok) in
    ap (parts_at c.args.front) (c.leave_at.ensures.set c.index.result.now c.index.ensures)
    ∙ part_left c.args.no c.args.issued.now c.args.held.now.items c.args.front c.in-Some.at c.index.result.now within c.requires.rising place c.index.ensures (sym c.is_needed.ensures ∙ c.if-is_needed.true)

pub returns-else-is_needed-clause-parts : goal.returns-else-is_needed-clause-parts
returns-else-is_needed-clause-parts c =
    let place = c.in-Some.ensures ∙ ap (λ hs. position (is_numbered no_of_held c.args.no) (take c.args.front hs)) c.deref.ensures.value in
    let within : c.args.front ≤ length c.args.held.now.items = omega (arith, c.requires.within, c.args.held.now.ok) in
    ap (parts_at _) (c.put_behind.ensures.put c.index.result.now c.index.ensures)
    ∙ part_gone c.args.no c.args.issued.now c.args.held.now.items c.args.front c.in-Some.at c.index.result.now within c.requires.rising place c.index.ensures (sym c.is_needed.ensures ∙ c.if-is_needed.false)

pub returns-in-None-clause-parts : goal.returns-in-None-clause-parts
returns-in-None-clause-parts c =
    let place = c.in-None.ensures ∙ ap (λ hs. position (is_numbered no_of_held c.args.no) (take c.args.front hs)) c.deref.ensures.value in
    part_none c.args.no c.args.issued.now c.args.held.now.items c.args.front place
