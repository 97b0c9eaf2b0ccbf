use Rattle.std.proofs.Common.{◌-◌, length, refl}
use Rattle.fs_map.proofs.Replaced.{brought}
use Rattle.fs_map.proofs.taking.bring_forward.Goals as goal

pub returns : goal.returns
returns c = brought c.args.items.now c.args.bounds.start c.args.bounds.end c.args.bounds.kept c.requires (length c.args.items.now - c.args.bounds.start) c.exchange_ends.new.items refl c.exchange_ends.ensures
