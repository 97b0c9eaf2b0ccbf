use Rattle.std.proofs.Common.{◌≡◌, sym, subst}
use Rattle.fs_server.specs.declared.event.ServerEvent.TheVariants.{FromPeer}
use Rattle.fs_server.specs.Step.{CanBeTold}
use Rattle.tests_cores.proofs.server.can_be_told.Goals as goal

pub returns-in-FromPeer : goal.returns-in-FromPeer
returns-in-FromPeer c h =
    let told : c.args.ev.now ≡ FromPeer c.in-FromPeer.from c.in-FromPeer.m = cc in
    subst CanBeTold (sym told) (c.can_be_brought.ensures h)
