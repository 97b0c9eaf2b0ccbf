use Rattle.std.specs.Prelude.{Err}
use Rattle.fs_launch.proofs.Bound.{after_bind}
use Rattle.fs_launch.proofs.launching.launch.Goals as goal
use Rattle.fs_launch.specs.Launch.{told}

pub returns-in-Ok-clause-broken : goal.returns-in-Ok-clause-broken
returns-in-Ok-clause-broken g c = λ why e.
    after_bind c.args.settings c.args.places (g.S.Source.left c.args.input.now) (Err why) (told (g.C.Clock.readings c.args.clock.now) (g.L.Link.calls c.args.link.now) (g.K.Sink.written c.args.out.now)) (told (g.C.Clock.readings c.bound.new.clock) (g.L.Link.calls c.bound.new.link) (g.K.Sink.written c.bound.new.out)) (g.L.Link.calls c.bind.new.self) c.in-Ok.ensures.call (c.bound.ensures.broken why e)
