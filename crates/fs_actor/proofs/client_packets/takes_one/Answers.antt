use Rattle.std.proofs.Common.{sym, subst}
use Rattle.fs_actor.specs.Events.{ClientTook}
use Rattle.fs_actor.specs.Several.{ClientRun}
use Rattle.fs_actor.proofs.Several.{client_of_one}
use Rattle.fs_actor.proofs.Took.{client_took_alone}
use Rattle.fs_actor.proofs.client_packets.takes_one.Goals as goal

pub returns-clause-done : goal.returns-clause-done
returns-clause-done c =
    let a = c.args in
    let n = c.took.new in
    let event = c.in_ok-note.field-0 in
    subst (λ (x : ClientRun). ClientTook x n.client n.post (record { finished = event.finished; packets = event.packets }))
    (sym (client_of_one a.s a.now a.from a.replied a.post.now a.heard.now a.client.now c.requires.few))
    (client_took_alone a.s a.client.now _ n.client n.post event c.in_ok-note.ensures.done)
