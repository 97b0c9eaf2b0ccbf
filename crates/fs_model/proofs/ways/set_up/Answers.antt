use Rattle.fs_model.proofs.WaysUp.{set_with_up}
use Rattle.fs_model.proofs.ways.set_up.Goals as goal

pub returns : goal.returns
returns c = set_with_up c.args.ways.now c.args.at c.args.up c.at_mut.result.now c.requires c.at_mut.ensures.value
