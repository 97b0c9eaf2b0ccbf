use Rattle.std.proofs.Common.{ap, ◌∙◌}
use Rattle.std.specs.Prelude.{Ok}
use Rattle.fs_client.specs.declared.state.Client.{Client as ClientCore}
use Rattle.fs_world.specs.Calls.{session_left}
use Rattle.fs_world.specs.Served.{SessionStepped}
use Rattle.fs_world.specs.declared.servers.session_state.SessionState.{SessionState}
use Rattle.fs_world.proofs.HeardCalls.{heard_each, run_alike, several_left, spends_so}
use Rattle.fs_world.proofs.servers.client_receive.hears_several.Goals as goal

pub returns-in-Ok-clause-done : goal.returns-in-Ok-clause-done
returns-in-Ok-clause-done c = λ journal.
    let a = c.args in
    let n = c.replies.new in
    let ran = run_alike a.now a.s a.k a.from _ a.heard.now.joined _ a.state.now.client n.client a.state.now.post n.post c.in-Ok.outcome
    a.packets.now n.packets c.as_slice-joined.ensures c.in_ok-after.ensures c.in-Ok.ensures.done in
    ap (λ (y : ClientCore). let left : SessionState = record a.state.now { client = y; post = n.post } in
    session_left c.in-Ok.outcome left journal n.packets) c.replace.ensures.after
    ∙ several_left a.now a.s a.k a.from a.heard.now c.in-Ok.outcome n.client n.post a.state.now journal a.packets.now n.packets
    c.requires.several ran

pub returns-in-Ok-clause-spends : goal.returns-in-Ok-clause-spends
returns-in-Ok-clause-spends c = λ journal.
    let a = c.args in
    let n = c.replies.new in
    let ran = run_alike a.now a.s a.k a.from _ a.heard.now.joined _ a.state.now.client n.client a.state.now.post n.post c.in-Ok.outcome
    a.packets.now n.packets c.as_slice-joined.ensures c.in_ok-after.ensures c.in-Ok.ensures.done in
    spends_so (Ok c.in-Ok.outcome) _ (λ counter e. absurd (cc))
    (ap (λ (x : SessionStepped). x.spent) (heard_each a.now a.s a.k a.from a.heard.now a.state.now journal a.packets.now
    c.requires.several) ∙ ran.unspent)
