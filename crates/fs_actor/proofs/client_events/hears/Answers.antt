use Rattle.std.proofs.Common.{◌≡◌, ap, sym, ◌∙◌, subst}
use Rattle.std.specs.Prelude.{Option, Some, None, IfOk, IsErrOf}
use Rattle.fs_actor.specs.Actor.{client_hears}
use Rattle.fs_actor.specs.Events.{ClientDid}
use Rattle.fs_actor.specs.Hearing.{answer_heard}
use Rattle.fs_msg.specs.declared.answer.Answer.{Answer}
use Rattle.fs_msg.specs.declared.core_error.Counter.{Counter}
use Rattle.fs_msg.specs.declared.core_error.CoreError.TheVariants as errors
use Rattle.fs_actor.proofs.client_events.hears.Goals as goal

pub returns-in-Some-clause-done : goal.returns-in-Some-clause-done
returns-in-Some-clause-done c =
    let a = c.args in
    let n = c.takes.new in
    let heard : Some c.in-Some.a ≡ answer_heard a.heard.now.joined = sym c.in-Some.is ∙ c.in_ok-a.ensures ∙ ap answer_heard c.as_slice.ensures in
    subst (λ (o : Option Answer). IfOk c.takes.result (ClientDid a.s a.client.now (client_hears a.now a.k a.replied a.heard.now o (record { client = a.client.now; post = a.post.now })) n.client n.post)) heard c.takes.ensures.done

pub returns-in-Some-clause-spent : goal.returns-in-Some-clause-spent
returns-in-Some-clause-spent c =
    let a = c.args in
    let heard : Some c.in-Some.a ≡ answer_heard a.heard.now.joined = sym c.in-Some.is ∙ c.in_ok-a.ensures ∙ ap answer_heard c.as_slice.ensures in
    subst (λ (o : Option Answer). (counter : Counter) → IsErrOf c.takes.result (errors.Spent counter) → (client_hears a.now a.k a.replied a.heard.now o (record { client = a.client.now; post = a.post.now })).spent ≡ Some counter) heard c.takes.ensures.spent

pub returns-in-None-clause-done : goal.returns-in-None-clause-done
returns-in-None-clause-done c =
    let a = c.args in
    let n = c.passes.new in
    let none : None ≡ answer_heard a.heard.now.joined = sym c.in-None.is ∙ c.in_ok-a.ensures ∙ ap answer_heard c.as_slice.ensures in
    subst (λ (o : Option Answer). IfOk c.passes.result (ClientDid a.s a.client.now (client_hears a.now a.k a.replied a.heard.now o (record { client = a.client.now; post = a.post.now })) a.client.now n.post)) none c.passes.ensures.done

pub returns-in-Some-clause-err_client : goal.returns-in-Some-clause-err_client
returns-in-Some-clause-err_client c = c.takes.ensures.err_client

pub returns-in-Some-clause-err_post : goal.returns-in-Some-clause-err_post
returns-in-Some-clause-err_post c = c.takes.ensures.err_post
