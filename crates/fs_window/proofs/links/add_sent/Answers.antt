use Rattle.std.proofs.Common.{rules}
use Rattle.fs_window.specs.Post.{packet_sent}
use Rattle.fs_window.proofs.Lists.{mapped_next}
use Rattle.fs_window.proofs.links.add_sent.Goals as goal

pub loop-packet-preserved : goal.loop-packet-preserved
loop-packet-preserved c =
    rw c.in_ok-push.ensures.ok
    (mapped_next (packet_sent c.args.me c.args.to) c.args.packets.now c.loop-packet.packet-index c.packet-item.result _ c.loop-packet.sent _ (search rules) c.packet-item.is c.in_ok-sent_of.ensures c.loop-packet.invariant)
