use Rattle.std.proofs.Common.{◌≡◌, ap, sym, ◌∙◌, subst}
use Rattle.std.specs.Prelude.{Option, Some, None, IfOk, IfSome, IsErrOf}
use Rattle.fs_actor.specs.Actor.{server_hears}
use Rattle.fs_actor.specs.Events.{ServerDid}
use Rattle.fs_actor.specs.Hearing.{event_heard}
use Rattle.fs_msg.specs.declared.core_error.Counter.{Counter}
use Rattle.fs_msg.specs.declared.core_error.CoreError.TheVariants as errors
use Rattle.fs_server.specs.Step.{CanBeTold}
use Rattle.fs_server.specs.declared.event.ServerEvent.{ServerEvent}
use Rattle.fs_actor.proofs.server_events.hears.Goals as goal

pub server_steps-requires-clause-told : goal.server_steps-requires-clause-told
server_steps-requires-clause-told c = subst (λ (o : Option ServerEvent). IfSome o CanBeTold) c.in-Some.is c.in_ok-event.ensures.told

pub returns-in-Some-clause-done : goal.returns-in-Some-clause-done
returns-in-Some-clause-done c =
    let a = c.args in
    let n = c.server_steps.new in
    let heard : Some c.in-Some.event ≡ event_heard a.from a.heard.now.joined = sym c.in-Some.is ∙ c.in_ok-event.ensures.event ∙ ap (event_heard a.from) c.as_slice.ensures in
    subst (λ (o : Option ServerEvent). IfOk c.server_steps.result (ServerDid (server_hears a.now a.replied a.heard.now o (record { server = a.server.now; post = a.post.now })) n.server n.post)) heard c.server_steps.ensures.done

pub returns-in-Some-clause-spent : goal.returns-in-Some-clause-spent
returns-in-Some-clause-spent c =
    let a = c.args in
    let heard : Some c.in-Some.event ≡ event_heard a.from a.heard.now.joined = sym c.in-Some.is ∙ c.in_ok-event.ensures.event ∙ ap (event_heard a.from) c.as_slice.ensures in
    subst (λ (o : Option ServerEvent). (counter : Counter) → IsErrOf c.server_steps.result (errors.Spent counter) → (server_hears a.now a.replied a.heard.now o (record { server = a.server.now; post = a.post.now })).spent ≡ Some counter) heard c.server_steps.ensures.spent

pub returns-in-None-clause-done : goal.returns-in-None-clause-done
returns-in-None-clause-done c =
    let a = c.args in
    let n = c.passes.new in
    let none : None ≡ event_heard a.from a.heard.now.joined = sym c.in-None.is ∙ c.in_ok-event.ensures.event ∙ ap (event_heard a.from) c.as_slice.ensures in
    subst (λ (o : Option ServerEvent). IfOk c.passes.result (ServerDid (server_hears a.now a.replied a.heard.now o (record { server = a.server.now; post = a.post.now })) a.server.now n.post)) none c.passes.ensures.done

pub returns-in-Some-clause-err_server : goal.returns-in-Some-clause-err_server
returns-in-Some-clause-err_server c = c.server_steps.ensures.err_server

pub returns-in-Some-clause-err_post : goal.returns-in-Some-clause-err_post
returns-in-Some-clause-err_post c = c.server_steps.ensures.err_post
