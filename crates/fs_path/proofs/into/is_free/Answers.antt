use Rattle.std.proofs.Common.{ap, not, sym, ◌∙◌}
use Rattle.fs_path.specs.Into.{is_free}
use Rattle.fs_path.specs.Returns.{is_needed, is_of}
use Rattle.fs_path.proofs.Rising.{find_none, find_place}
use Rattle.fs_path.proofs.into.is_free.Goals as goal

pub returns-in-Some : goal.returns-in-Some
returns-in-Some c =
    let found = find_place (is_of c.args.no) c.args.held.now c.in-Some.at c.index-held-at.result c.in-Some.ensures in
    ap not (c.is_needed.ensures ∙ ap (is_needed c.args.issued.now) c.index-held-at.is) ∙ sym (ap (is_free c.args.issued.now) found)

pub returns-in-None : goal.returns-in-None
returns-in-None c = sym (ap (is_free c.args.issued.now) (find_none (is_of c.args.no) c.args.held.now c.in-None.ensures))
