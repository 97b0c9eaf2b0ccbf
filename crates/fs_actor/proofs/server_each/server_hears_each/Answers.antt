use Rattle.std.proofs.Common.{◌≡◌, ◌+◌, suc, List, ◌∷◌, drop, Some, IsErrOf, ap, sym, ◌∙◌, add-one, drop-cons, rules}
use Rattle.fs_frag.specs.declared.joined.Joined.{Joined}
use Rattle.fs_msg.specs.declared.core_error.Counter.{Counter}
use Rattle.fs_msg.specs.declared.core_error.CoreError.TheVariants as errors
use Rattle.fs_actor.specs.Events.{server_so_far}
use Rattle.fs_actor.specs.Hearing.{event_of, message_in}
use Rattle.fs_actor.specs.Several.{ServerRun, server_hears_each, server_hears_one}
use Rattle.fs_actor.proofs.Several.{server_spent}
use Rattle.fs_actor.proofs.server_each.server_hears_each.Goals as goal

pub returns-in_err-hears_one-clause-spent : goal.returns-in_err-hears_one-clause-spent
returns-in_err-hears_one-clause-spent c =
    let a = c.args in
    let l = c.loop-one in
    let i = l.one-index in
    let js = a.joined.now in
    let so_far = server_so_far l.heard l.server l.post in
    let then = server_hears_one a.now (event_of a.from (message_in c.one-item.result)) so_far in
    let left : drop i js ≡ c.one-item.result ∷ drop (i + 1) js =
    rw add-one (drop-cons js i c.one-item.result c.loop-one-test.true ∙ ap (λ (x : Joined). x ∷ drop (suc i) js) (sym c.one-item.is)) in
    let all : server_hears_each a.now a.from (drop (i + 1) js) then ≡ server_hears_each a.now a.from js (server_so_far a.heard.now a.server.now a.post.now) =
    sym (ap (λ (x : List Joined). server_hears_each a.now a.from x so_far) left) ∙ l.invariant.heard in
    let one : (counter : Counter) → IsErrOf c.from_residual.result (errors.Spent counter) → then.spent ≡ Some counter = search rules in
    λ counter e. ap (λ (x : ServerRun). x.spent) (sym all) ∙ server_spent a.now a.from (drop (i + 1) js) then counter (one counter e)
