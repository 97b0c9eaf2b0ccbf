use Rattle.std.proofs.Common.{refl, map, string_bytes, sym, ◌∙◌}
use Rattle.std.specs.Prelude.{Ok, Err}
use Rattle.fs_launch.specs.Launch.{told}
use Rattle.fs_turns.specs.declared.stop.Stop.TheVariants as stop
use Rattle.fs_words.specs.Places.{node_places}
use Rattle.farsite.specs.declared.status.Status.TheVariants as status
use Rattle.farsite.proofs.Launched.{among, caused, wanting}
use Rattle.farsite.proofs.node.node.Goals as goal

pub returns-in-Ok-launch-clause-done : goal.returns-in-Ok-launch-clause-done
returns-in-Ok-launch-clause-done g c = λ _.
    among c.args.settings c.in-Ok.places (node_places (map string_bytes c.args.words.now)) (g.S.Source.left c.args.input.now) (Ok (tt {0})) (told (g.C.Clock.readings c.args.clock.now) (g.L.Link.calls c.args.link.now) (g.K.Sink.written c.args.out.now)) (told (g.C.Clock.readings c.launch.new.clock) (g.L.Link.calls c.launch.new.link) (g.K.Sink.written c.launch.new.out)) c.in-Ok.ensures c.in-Ok-launch.ensures.run

pub returns-in-Err-launch-clause-spent : goal.returns-in-Err-launch-clause-spent
returns-in-Err-launch-clause-spent g c = λ counter h.
    among c.args.settings c.in-Ok.places (node_places (map string_bytes c.args.words.now)) (g.S.Source.left c.args.input.now) (Err (stop.Spent counter)) (told (g.C.Clock.readings c.args.clock.now) (g.L.Link.calls c.args.link.now) (g.K.Sink.written c.args.out.now)) (told (g.C.Clock.readings c.launch.new.clock) (g.L.Link.calls c.launch.new.link) (g.K.Sink.written c.launch.new.out)) c.in-Ok.ensures (c.in-Err-launch.ensures.broken (stop.Spent counter) (caused c.in-Err-launch.e (status.Spent counter) (stop.Spent counter) (sym c.launch_status.ensures ∙ h) refl))

pub returns-in-Err-launch-clause-memory : goal.returns-in-Err-launch-clause-memory
returns-in-Err-launch-clause-memory g c = λ h.
    wanting c.in-Err-launch.e (sym c.launch_status.ensures ∙ h) (λ u. c.in-Err-launch.ensures.out u) (λ e. among c.args.settings c.in-Ok.places (node_places (map string_bytes c.args.words.now)) (g.S.Source.left c.args.input.now) (Err stop.Memory) (told (g.C.Clock.readings c.args.clock.now) (g.L.Link.calls c.args.link.now) (g.K.Sink.written c.args.out.now)) (told (g.C.Clock.readings c.launch.new.clock) (g.L.Link.calls c.launch.new.link) (g.K.Sink.written c.launch.new.out)) c.in-Ok.ensures (c.in-Err-launch.ensures.broken stop.Memory e))

pub returns-in-Err-launch-clause-prefix : goal.returns-in-Err-launch-clause-prefix
returns-in-Err-launch-clause-prefix g c = λ h.
    among c.args.settings c.in-Ok.places (node_places (map string_bytes c.args.words.now)) (g.S.Source.left c.args.input.now) (Err stop.Write) (told (g.C.Clock.readings c.args.clock.now) (g.L.Link.calls c.args.link.now) (g.K.Sink.written c.args.out.now)) (told (g.C.Clock.readings c.launch.new.clock) (g.L.Link.calls c.launch.new.link) (g.K.Sink.written c.launch.new.out)) c.in-Ok.ensures (c.in-Err-launch.ensures.broken stop.Write (caused c.in-Err-launch.e status.WriteFault stop.Write (sym c.launch_status.ensures ∙ h) refl))
