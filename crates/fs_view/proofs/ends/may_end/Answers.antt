use Rattle.fs_view.proofs.Ending.{none_by}
use Rattle.fs_view.proofs.ends.may_end.Goals as goal

pub returns : goal.returns
returns c h = none_by c.args.soon c.args.leases.now.least c.args.leases.now.kept.items h c.requires.ends
