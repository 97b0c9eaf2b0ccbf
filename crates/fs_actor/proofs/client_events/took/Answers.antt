use Rattle.std.proofs.Common.{◌≡◌, sym, subst}
use Rattle.std.specs.Prelude.{Some, IfOk, IsErrOf}
use Rattle.fs_actor.specs.Comes.{client_took}
use Rattle.fs_actor.specs.Events.{ClientDid}
use Rattle.fs_ident.specs.declared.actor.Peer.{Peer}
use Rattle.fs_msg.specs.declared.core_error.Counter.{Counter}
use Rattle.fs_msg.specs.declared.core_error.CoreError.TheVariants as errors
use Rattle.fs_actor.proofs.client_events.took.Goals as goal

pub returns-in-Server-clause-done : goal.returns-in-Server-clause-done
returns-in-Server-clause-done c =
    let a = c.args in
    let n = c.hears.new in
    subst (λ (f : Peer). IfOk c.hears.result (ClientDid a.s a.client.now (client_took a.now f a.replied a.heard.now (record { client = a.client.now; post = a.post.now })) n.client n.post)) (sym c.in-Server.is) c.hears.ensures.done

pub returns-in-Server-clause-spent : goal.returns-in-Server-clause-spent
returns-in-Server-clause-spent c =
    let a = c.args in
    subst (λ (f : Peer). (counter : Counter) → IsErrOf c.hears.result (errors.Spent counter) → (client_took a.now f a.replied a.heard.now (record { client = a.client.now; post = a.post.now })).spent ≡ Some counter) (sym c.in-Server.is) c.hears.ensures.spent

pub returns-in-Client-clause-done : goal.returns-in-Client-clause-done
returns-in-Client-clause-done c =
    let a = c.args in
    let n = c.passes.new in
    subst (λ (f : Peer). IfOk c.passes.result (ClientDid a.s a.client.now (client_took a.now f a.replied a.heard.now (record { client = a.client.now; post = a.post.now })) a.client.now n.post)) (sym c.in-Client.is) c.passes.ensures.done
