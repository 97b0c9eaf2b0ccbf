use Rattle.std.proofs.Common.{List, ℕ, ◌+◌, ◌∷◌, ◌∙◌, ap, sym}
use Rattle.fs_window.proofs.PacketSteps.{packets_step}
use Rattle.fs_window.proofs.queue.add_packets.Goals as goal

pub loop-next-preserved : goal.loop-next-preserved
loop-next-preserved c =
    rw c.in_ok-push.ensures.ok
    (packets_step c.args.ack c.loop-next.next (c.args.number + c.args.count) c.in_ok-copy.field-0 c.loop-next.left c.next.new.self c.loop-next.packets _ c.loop-next-test.true
    (c.in-Some.ensures.steps ∙ ap (λ (s : List ℕ). s ∷ c.next.new.self) (sym c.in_ok-copy.ensures)) c.loop-next.invariant)
