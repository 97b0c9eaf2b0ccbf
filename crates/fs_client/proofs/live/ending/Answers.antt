use Rattle.std.proofs.Common.{sym, ◌∙◌}
use Rattle.fs_client.proofs.Chosen.{none_ends}
use Rattle.fs_client.proofs.live.ending.Goals as goal

pub returns : goal.returns
returns c = c.new.ensures ∙ sym (none_ends c.args.reading c.args.soon c.args.view.now.leases (c.may_end.ensures c.if-may_end.false))
