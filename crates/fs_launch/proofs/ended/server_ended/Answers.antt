use Rattle.std.proofs.Common.{◌∙◌}
use Rattle.fs_launch.proofs.Endings.{ended}
use Rattle.fs_launch.proofs.ended.server_ended.Goals as goal
use Rattle.fs_launch.specs.Launch.{server_role, told}

pub returns-in-Ok-ending-clause-comes : goal.returns-in-Ok-ending-clause-comes
returns-in-Ok-ending-clause-comes g c =
    ended (server_role c.args.node.now) c.args.turns (told (g.C.Clock.readings c.args.clock.now) (g.L.Link.calls c.args.link.now) (g.K.Sink.written c.args.out.now)) (g.C.Clock.readings c.run.new.clock) (g.L.Link.calls c.run.new.link) (record { actor = c.run.new.actor; counts = c.run.new.counts }) (g.K.Sink.written c.run.new.out) (g.K.Sink.written c.written.new.out) c.deref.result.now c.written.result c.in-Ok.ensures.done (c.deref.ensures.value ∙ c.in-Ok-ending.ensures) c.written.ensures.done c.written.ensures.cut c.written.ensures.write
