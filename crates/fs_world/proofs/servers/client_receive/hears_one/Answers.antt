use Rattle.std.proofs.Common.{◌≡◌, ap, sym, ◌∙◌, subst, false}
use Rattle.std.specs.Prelude.{Option, Some, None, IfOk}
use Rattle.fs_actor.specs.Hearing.{answer_heard}
use Rattle.fs_msg.specs.declared.answer.Answer.{Answer}
use Rattle.fs_msg.specs.declared.note.Note.{Note}
use Rattle.fs_window.specs.Post.{Links}
use Rattle.fs_world.specs.Calls.{Spends, client_hears_one, state_goes, session_left}
use Rattle.fs_world.specs.declared.servers.session_state.SessionState.{SessionState}
use Rattle.fs_world.proofs.servers.client_receive.hears_one.Goals as goal

pub returns-in_ok-outcome-in-None-clause-done : goal.returns-in_ok-outcome-in-None-clause-done
returns-in_ok-outcome-in-None-clause-done c =
    let a = c.args in
    let state = a.state.now in
    let none : None ≡ answer_heard a.heard.now.joined =
    sym c.in-None.is ∙ c.in_ok-answer_heard.ensures ∙ ap answer_heard c.as_slice.ensures in
    let put : Links → SessionState = λ post. record state { post = post } in
    let e = c.in_ok-outcome-in-None.ensures in
    (λ i. session_left (e.outcome i) (put (c.mark_sent.ensures i)) a.journal.now (e.ok i))
    ∙ ap (λ (n : Note). state_goes a.s false a.from n state a.journal.now a.packets.now) c.unheard_note-note.ensures
    ∙ ap (λ (o : Option Answer). client_hears_one a.now a.s a.k a.from a.heard.now o state a.journal.now a.packets.now) none

pub returns-in-Some-clause-done : goal.returns-in-Some-clause-done
returns-in-Some-clause-done c =
    let a = c.args in
    let n = c.takes.new in
    let heard : Some c.in-Some.a ≡ answer_heard a.heard.now.joined =
    sym c.in-Some.is ∙ c.in_ok-answer_heard.ensures ∙ ap answer_heard c.as_slice.ensures in
    subst (λ (o : Option Answer). IfOk c.takes.result (λ outcome. session_left outcome n.state n.journal n.packets ≡ client_hears_one a.now
    a.s a.k a.from a.heard.now o a.state.now a.journal.now a.packets.now)) heard c.takes.ensures.done

pub returns-in-Some-clause-spends : goal.returns-in-Some-clause-spends
returns-in-Some-clause-spends c =
    let a = c.args in
    let heard : Some c.in-Some.a ≡ answer_heard a.heard.now.joined =
    sym c.in-Some.is ∙ c.in_ok-answer_heard.ensures ∙ ap answer_heard c.as_slice.ensures in
    subst (λ (o : Option Answer). Spends c.takes.result (client_hears_one a.now a.s a.k a.from a.heard.now o a.state.now a.journal.now
    a.packets.now).spent) heard c.takes.ensures.spends
