use Rattle.std.proofs.Common.{ap, sym, ◌∙◌}
use Rattle.fs_path.specs.Freed.{if_leaving}
use Rattle.fs_path.specs.Returns.{is_of}
use Rattle.fs_path.specs.Tables.{is_leaving}
use Rattle.fs_path.proofs.Rising.{find_none, find_place}
use Rattle.fs_path.proofs.returning.leaves.Goals as goal

pub returns-in-Some : goal.returns-in-Some
returns-in-Some c = c.is_leaving.ensures ∙ ap is_leaving c.index-held-at.is ∙ sym (ap if_leaving (find_place (is_of c.args.no) c.args.held.now c.in-Some.at c.index-held-at.result c.in-Some.ensures))

pub returns-in-None : goal.returns-in-None
returns-in-None c = sym (ap if_leaving (find_none (is_of c.args.no) c.args.held.now c.in-None.ensures))
