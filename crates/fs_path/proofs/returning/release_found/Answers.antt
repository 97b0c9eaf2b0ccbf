use Rattle.std.proofs.Common.{ap, ◌∙◌}
use Rattle.fs_path.specs.Freed.{without_freed}
use Rattle.fs_path.specs.Returns.{without_no}
use Rattle.fs_path.proofs.Freed.{all_left, left_freed}
use Rattle.fs_path.proofs.returning.release_found.Goals as goal

pub returns-in-Some-clause-held : goal.returns-in-Some-clause-held
returns-in-Some-clause-held c =
    let issued = c.args.issued.now.items in
    let held = c.args.held.now.items in
    let rising = (c.requires.over c.requires.over_whole).0 in
    c.let_go_along.ensures.held
    ∙ ap (λ ls. without_freed ls c.as_slice.result.now held) (c.deref.ensures.value ∙ c.in-Some.ensures.issued)
    ∙ ap (λ files. without_freed (without_no c.args.no issued) files held) (c.as_slice.ensures ∙ c.path.ensures)
    ∙ left_freed c.args.no issued held c.in-Some.l rising c.in-Some.ensures.taken c.requires.needed

pub returns-in_default-clause-held : goal.returns-in_default-clause-held
returns-in_default-clause-held c = all_left c.args.no c.args.issued.now.items c.args.held.now.items c.in_default.ensures.taken c.requires.needed
