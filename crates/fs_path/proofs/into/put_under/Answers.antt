use Rattle.std.proofs.Common.{ap, subst, sym, ◌≡◌, ◌∙◌}
use Rattle.std.specs.Prelude.{OnOk}
use Rattle.fs_path.specs.Index.{named_at}
use Rattle.fs_path.specs.Into.{names_under}
use Rattle.fs_path.specs.Merged.{with_each}
use Rattle.fs_path.specs.Returns.{is_of}
use Rattle.fs_path.specs.Tables.{lease_of}
use Rattle.fs_path.proofs.Rising.{find_none, find_place}
use Rattle.fs_path.proofs.into.put_under.Goals as goal

pub returns-in-Some : goal.returns-in-Some
returns-in-Some c =
    let found = find_place (is_of c.args.no) c.args.held.now c.in-Some.at c.index-held-at.result c.in-Some.ensures in
    let file = c.file.ensures ∙ ap (λ h. (lease_of h).file) c.index-held-at.is in
    let names = c.at.ensures ∙ ap (named_at c.args.over.now.files) file ∙ sym (ap (names_under c.args.over.now.files) found) in
    subst (λ ns. OnOk c.put_each.result (c.put_each.new.list ≡ with_each ns c.args.list.now)) names c.put_each.ensures

pub returns-in-None : goal.returns-in-None
returns-in-None c = sym (ap (λ o. with_each (names_under c.args.over.now.files o) c.args.list.now) (find_none (is_of c.args.no) c.args.held.now c.in-None.ensures))
