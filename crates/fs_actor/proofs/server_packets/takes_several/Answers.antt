use Rattle.std.proofs.Common.{◌≡◌, [], Some, IsErrOf, ap, sym, ◌∙◌, rules}
use Rattle.fs_msg.specs.declared.core_error.Counter.{Counter}
use Rattle.fs_msg.specs.declared.core_error.CoreError.TheVariants as errors
use Rattle.fs_actor.specs.Several.{ServerRun, server_begins, server_hears_each, server_replies, server_takes_all}
use Rattle.fs_actor.proofs.Several.{server_of_several}
use Rattle.fs_actor.proofs.server_packets.takes_several.Goals as goal

pub returns-in_err-told-clause-spent : goal.returns-in_err-told-clause-spent
returns-in_err-told-clause-spent c =
    let a = c.args in
    let all = server_takes_all a.now a.from a.replied (record { links = a.post.now; heard = a.heard.now }) a.server.now in
    let ran : server_replies a.replied (server_hears_each a.now a.from c.as_slice-joined.result.now (server_begins c.in_ok-after.after a.post.now [])) ≡ all =
    (λ i. server_replies a.replied (server_hears_each a.now a.from (c.as_slice-joined.ensures i) (server_begins (c.in_ok-after.ensures i) a.post.now [])))
    ∙ sym (server_of_several a.now a.from a.replied a.post.now a.heard.now a.server.now c.requires.several) in
    let one : (counter : Counter) → IsErrOf c.from_residual-in_err-told.result (errors.Spent counter) → (server_hears_each a.now a.from c.as_slice-joined.result.now (server_begins c.in_ok-after.after a.post.now [])).spent ≡ Some counter = search rules in
    λ counter e. ap (λ (x : ServerRun). x.spent) (sym ran) ∙ one counter e
