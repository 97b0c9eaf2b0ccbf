use Rattle.std.proofs.Common.{◌≡◌, IfOk, ap, subst, sym, ◌∙◌}
use Rattle.fs_path.specs.Index.{is_numbered, no_of_held}
use Rattle.fs_path.specs.Leases.{goes_over}
use Rattle.fs_path.specs.Returns.{recalls}
use Rattle.fs_path.specs.Tables.{lease_of}
use Rattle.fs_path.proofs.Own.{recalls_none, recalls_there}
use Rattle.fs_path.proofs.Rising.{at_number}
use Rattle.fs_path.proofs.giving.found_under.Goals as goal

pub returns-in-Some : goal.returns-in-Some
returns-in-Some c =
    let there = at_number (is_numbered no_of_held c.args.no) c.args.held.now c.in-Some.at c.index-held-at.result c.in-Some.ensures in
    let file = c.file.ensures ∙ ap (λ h. (lease_of h).file) c.index-held-at.is in
    subst (λ ns. IfOk c.recalls_over.result (λ list. list ≡ ns))
    (ap (λ f. recalls (goes_over f) c.args.issued.now) file ∙ recalls_there c.args.no c.args.issued.now c.args.held.now c.in-Some.at c.index-held-at.result c.requires.rising there.0 there.1)
    c.recalls_over.ensures

pub returns-in-None : goal.returns-in-None
returns-in-None c = c.new.ensures ∙ sym (recalls_none c.args.no c.args.issued.now c.args.held.now c.in-None.ensures)
