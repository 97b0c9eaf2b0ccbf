use Rattle.std.proofs.Common.{not, sym, ap, ◌∙◌}
use Rattle.fs_view.proofs.Finding.{live_there, none_live}
use Rattle.fs_view.proofs.leases.has_live.Goals as goal

pub returns-in-None : goal.returns-in-None
returns-in-None c = sym (none_live c.args.now c.args.no c.args.leases.now.kept.items (sym c.in-None.ensures))

pub returns-in-Some : goal.returns-in-Some
returns-in-Some c = ap not c.has_ended.ensures ∙ sym (live_there c.args.now c.args.no c.args.leases.now.kept.items c.in-Some.kept.now (sym c.in-Some.ensures) c.requires.distinct)
