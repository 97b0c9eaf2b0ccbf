use Rattle.fs_world.proofs.Marks.{marked_added}
use Rattle.fs_world.proofs.servers.packets.Packets.add.Goals as goal

pub invariant_of-self : goal.invariant_of-self
invariant_of-self c =
    marked_added c.append_both.result c.self.inside.sent c.args.more _ c.self.inside.delivered c.in_ok-marks.marks _ c.self.inside.next
    c.self.invariant (rw c.as_slice.ensures at c.in_ok-marks.ensures)
    c.append_both.ensures.sent c.append_both.ensures.delivered c.append_both.ensures.err_sent c.append_both.ensures.err_delivered
