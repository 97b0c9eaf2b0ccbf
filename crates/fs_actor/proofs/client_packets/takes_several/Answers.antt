use Rattle.std.proofs.Common.{◌≡◌, [], sym, ◌∙◌, subst}
use Rattle.fs_client.specs.declared.state.Client.{Client}
use Rattle.fs_actor.specs.Events.{ClientTook}
use Rattle.fs_actor.specs.Several.{ClientRun, client_begins, client_hears_each, client_replies, client_takes_all}
use Rattle.fs_actor.proofs.Several.{client_of_several}
use Rattle.fs_actor.proofs.client_packets.takes_several.Goals as goal

pub returns-in-Ok-clause-done : goal.returns-in-Ok-clause-done
returns-in-Ok-clause-done c =
    let a = c.args in
    let n = c.replies.new in
    let told = c.in-Ok.told in
    let all = client_takes_all a.s a.now a.from a.replied (record { links = a.post.now; heard = a.heard.now }) a.client.now in
    let ran : client_replies a.replied (client_hears_each a.s a.now a.from c.as_slice-joined.result.now (client_begins c.in_ok-after.after a.post.now [])) ≡ all =
    (λ i. client_replies a.replied (client_hears_each a.s a.now a.from (c.as_slice-joined.ensures i) (client_begins (c.in_ok-after.ensures i) a.post.now [])))
    ∙ sym (client_of_several a.s a.now a.from a.replied a.post.now a.heard.now a.client.now c.requires.several) in
    subst (λ (y : Client). ClientTook all y n.post told) (sym c.replace.ensures.after) (subst (λ (x : ClientRun). ClientTook x n.client n.post told) ran c.in-Ok.ensures.done)
