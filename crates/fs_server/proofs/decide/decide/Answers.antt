use Rattle.std.proofs.Common.{◌≡◌, subst}
use Rattle.fs_server.specs.declared.event.ServerEvent.TheVariants.{FromPeer}
use Rattle.fs_server.specs.Step.{CanBeTold}
use Rattle.fs_server.proofs.decide.decide.Goals as goal

pub from_peer-requires-clause-told : goal.from_peer-requires-clause-told
from_peer-requires-clause-told c =
    let told : c.args.ev.now ≡ FromPeer c.in-FromPeer.from c.in-FromPeer.m = cc in
    subst CanBeTold told c.requires.told
