use Rattle.std.proofs.Common.{◌≡◌, sym, subst}
use Rattle.fs_msg.specs.declared.peer_msg.PeerMsg.TheVariants as peer
use Rattle.fs_server.specs.declared.event.ServerEvent.TheVariants.{FromPeer}
use Rattle.fs_server.specs.Step.{AreNumbersLeft, CanBeTold}
use Rattle.tests_cores.proofs.server.can_be_brought.Goals as goal

pub returns-in-Parcel : goal.returns-in-Parcel
returns-in-Parcel c h =
    let brought : c.args.m.now ≡ peer.Parcel c.in-Parcel.parcel = cc in
    subst (λ m. CanBeTold (FromPeer c.args.from m)) (sym brought) (subst AreNumbersLeft c.as_slice.ensures (c.are_numbers_left.ensures h))
