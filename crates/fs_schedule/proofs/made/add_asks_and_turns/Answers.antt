use Rattle.std.proofs.Common.{List, ◌∙◌, ap}
use Rattle.fs_schedule.specs.declared.event.Event.{Event}
use Rattle.fs_schedule.specs.Made.{asks, each, turns, with_events}
use Rattle.fs_schedule.proofs.Making.{with_both}
use Rattle.fs_schedule.proofs.made.add_asks_and_turns.Goals as goal

pub returns : goal.returns
returns c =
    c.in_ok-add_turns.ensures ∙ ap (λ (es : List Event). with_events es (each turns 6)) c.in_ok-add_asks.ensures
    ∙ with_both c.args.events.now (each (λ _. asks c.args.session c.args.op.now) 4) (each turns 6)
