use Rattle.std.proofs.Common.{IfOk, ap, subst, sym, ◌≡◌, ◌∙◌}
use Rattle.std.specs.Prelude.{Some}
use Rattle.fs_path.specs.Freed.{freed_names}
use Rattle.fs_path.specs.Leases.{has_no}
use Rattle.fs_path.specs.Returns.{without_no}
use Rattle.fs_path.proofs.Freed.{none_released, releases_freed}
use Rattle.fs_path.proofs.Rising.{find_none, find_place}
use Rattle.fs_path.proofs.returning.releases_under.Goals as goal

pub returns-in-Some : goal.returns-in-Some
returns-in-Some c =
    let rising = (c.requires.over c.requires.over_whole).0 in
    let l = c.index-issued-at.result in
    let there = ap Some c.index-issued-at.is ∙ sym (find_place (has_no c.args.no) c.args.issued.now c.in-Some.at l c.in-Some.ensures) in
    let path = c.as_slice-path.ensures ∙ c.path.ensures in
    subst (λ ns. IfOk c.releases_along.result (λ list. list ≡ ns))
    (ap (λ files. freed_names (without_no c.args.no c.args.issued.now) files c.args.held.now) path ∙ releases_freed c.args.no c.args.issued.now c.args.held.now l rising there c.requires.needed)
    c.releases_along.ensures

pub returns-in-None : goal.returns-in-None
returns-in-None c = c.new.ensures ∙ none_released c.args.no c.args.issued.now c.args.held.now (sym (find_none (has_no c.args.no) c.args.issued.now c.in-None.ensures)) c.requires.needed
