use Rattle.std.proofs.Common.{ap, sym, ◌∙◌}
use Rattle.std.specs.Prelude.{Some}
use Rattle.fs_path.specs.Index.{if_used}
use Rattle.fs_path.specs.Returns.{is_of}
use Rattle.fs_path.proofs.Rising.{find_none, find_place}
use Rattle.fs_path.proofs.walk.used_of.Goals as goal

pub returns-in-Some : goal.returns-in-Some
returns-in-Some c =
    c.used.ensures
    ∙ ap (λ h. if_used (Some h)) c.index-held-at.is
    ∙ sym (ap if_used (find_place (is_of c.args.no) c.args.held.now c.in-Some.at c.index-held-at.result c.in-Some.ensures))

pub returns-in-None : goal.returns-in-None
returns-in-None c = sym (ap if_used (find_none (is_of c.args.no) c.args.held.now c.in-None.ensures))
