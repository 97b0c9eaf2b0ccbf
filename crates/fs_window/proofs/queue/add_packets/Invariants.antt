use Rattle.std.proofs.Common.{◌≡◌, ◌+◌, ◌-◌, ◌++◌, take, drop}
use Rattle.fs_window.specs.LinkEnd.{packets_from}
use Rattle.fs_window.proofs.queue.add_packets.Given as goal

-- what was added, and then what is left, are all of them
abbrev pub invariant-loop-next : goal.invariant-loop-next
invariant-loop-next l = l.packets ++ packets_from l.ack l.next (take (l.number + l.count - l.next) l.left) ≡ l.fn.packets ++ packets_from l.ack l.number (take l.count (drop l.place l.waiting))
