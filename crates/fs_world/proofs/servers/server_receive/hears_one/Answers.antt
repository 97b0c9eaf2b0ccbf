use Rattle.std.proofs.Common.{◌≡◌, refl, ap, sym, ◌∙◌, subst, false}
use Rattle.std.specs.Prelude.{Option, Some, None, IfOk, IfSome}
use Rattle.fs_actor.specs.Hearing.{event_heard, unheard_note}
use Rattle.fs_msg.specs.declared.note.Note.{Note}
use Rattle.fs_server.specs.Step.{CanBeTold}
use Rattle.fs_server.specs.declared.event.ServerEvent.{ServerEvent}
use Rattle.fs_world.specs.Calls.{Spends, server_goes, server_hears_one, server_left}
use Rattle.fs_world.specs.Served.{ServerStepped, server_found}
use Rattle.fs_world.proofs.AtHearing.{answered_after, unheard_answered}
use Rattle.fs_world.proofs.GoesAlone.{goes_alone}
use Rattle.fs_world.proofs.servers.server_receive.hears_one.Goals as goal

pub core_step-requires-clause-told : goal.core_step-requires-clause-told
core_step-requires-clause-told c = subst (λ (o : Option ServerEvent). IfSome o CanBeTold) c.in-Some.is c.in_ok-event_heard.ensures.told

pub returns-in_ok-outcome-in-None-clause-done : goal.returns-in_ok-outcome-in-None-clause-done
returns-in_ok-outcome-in-None-clause-done c =
    let a = c.args in
    let x : ServerStepped = server_found a.core.now a.post.now a.sessions.now a.in_flight.now a.journal.now a.packets.now in
    let none : None ≡ event_heard a.from a.heard.now.joined =
    sym c.in-None.is ∙ c.in_ok-event_heard.ensures.event ∙ ap (event_heard a.from) c.as_slice.ensures in
    let e = c.in_ok-outcome-in-None.ensures in
    (λ i. server_left (e.outcome i) a.core.now (c.mark_sent.ensures i) a.sessions.now a.in_flight.now a.journal.now (e.ok i))
    ∙ ap (λ (n : Note). server_goes a.k false a.replied n None x) c.unheard_note-note.ensures
    ∙ goes_alone a.k false a.replied (unheard_note a.heard.now) x
    ∙ ap (λ (o : Option ServerEvent). server_hears_one a.now a.k a.replied a.heard.now o x) none

pub returns-in_ok-outcome-in-None-clause-fits : goal.returns-in_ok-outcome-in-None-clause-fits
returns-in_ok-outcome-in-None-clause-fits c =
    let a = c.args in
    let x : ServerStepped = server_found a.core.now a.post.now a.sessions.now a.in_flight.now a.journal.now a.packets.now in
    let none : None ≡ event_heard a.from a.heard.now.joined =
    sym c.in-None.is ∙ c.in_ok-event_heard.ensures.event ∙ ap (event_heard a.from) c.as_slice.ensures in
    unheard_answered a.now a.from a.heard.now.joined x c.requires.few none

pub returns-in-Some-clause-done : goal.returns-in-Some-clause-done
returns-in-Some-clause-done c =
    let a = c.args in
    let n = c.core_step.new in
    let x : ServerStepped = server_found a.core.now a.post.now a.sessions.now a.in_flight.now a.journal.now a.packets.now in
    let heard : Some c.in-Some.event ≡ event_heard a.from a.heard.now.joined =
    sym c.in-Some.is ∙ c.in_ok-event_heard.ensures.event ∙ ap (event_heard a.from) c.as_slice.ensures in
    subst (λ (o : Option ServerEvent). IfOk c.core_step.result (λ outcome. server_left outcome n.core n.post n.sessions n.in_flight
    n.journal n.packets ≡ server_hears_one a.now a.k a.replied a.heard.now o x)) heard c.core_step.ensures.done

pub returns-in-Some-clause-fits : goal.returns-in-Some-clause-fits
returns-in-Some-clause-fits c =
    let a = c.args in
    let n = c.core_step.new in
    let x : ServerStepped = server_found a.core.now a.post.now a.sessions.now a.in_flight.now a.journal.now a.packets.now in
    let heard : Some c.in-Some.event ≡ event_heard a.from a.heard.now.joined =
    sym c.in-Some.is ∙ c.in_ok-event_heard.ensures.event ∙ ap (event_heard a.from) c.as_slice.ensures in
    answered_after c.core_step.result a.k a.from a.replied a.now a.heard.now.joined x c.in-Some.event
    (λ outcome. server_left outcome n.core n.post n.sessions n.in_flight n.journal n.packets) c.requires.few heard
    c.core_step.ensures.fits (λ o. refl) c.core_step.ensures.done

pub returns-in-Some-clause-spends : goal.returns-in-Some-clause-spends
returns-in-Some-clause-spends c =
    let a = c.args in
    let x : ServerStepped = server_found a.core.now a.post.now a.sessions.now a.in_flight.now a.journal.now a.packets.now in
    let heard : Some c.in-Some.event ≡ event_heard a.from a.heard.now.joined =
    sym c.in-Some.is ∙ c.in_ok-event_heard.ensures.event ∙ ap (event_heard a.from) c.as_slice.ensures in
    subst (λ (o : Option ServerEvent). Spends c.core_step.result (server_hears_one a.now a.k a.replied a.heard.now o x).spent) heard
    c.core_step.ensures.spends
