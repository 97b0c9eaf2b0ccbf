use Rattle.std.proofs.Common.{◌≡◌, ◌++◌, map, drop}
use Rattle.fs_window.specs.Post.{packet_sent}
use Rattle.fs_window.proofs.links.add_sent.Given as goal

-- what was added, and then what is left, are all of them
abbrev pub invariant-loop-packet : goal.invariant-loop-packet
invariant-loop-packet l = l.sent ++ map (packet_sent l.me l.to) (drop l.packet-index l.packets) ≡ l.fn.sent ++ map (packet_sent l.me l.to) l.packets
