use Rattle.std.proofs.Common.{length, ap, arith}
use Rattle.fs_client.specs.declared.state.Client.{Client}
use Rattle.fs_node.proofs.Lines.{all_counted}
use Rattle.fs_node.proofs.client_turns.hears.Goals as goal

pub overflow_sub-left : goal.overflow_sub-left
overflow_sub-left c =
    let a = c.args in
    let h = all_counted a.s a.now a.from a.p.now (record { client = a.client.now; post = a.post.now }) in
    let took = c.in_ok-told.ensures.done in
    omega (arith, h.fewer, ap length c.log-before.ensures, ap length c.log.ensures, ap (λ (x : Client). length x.log) took.client_then)

pub overflow_sub-lines : goal.overflow_sub-lines
overflow_sub-lines c =
    let a = c.args in
    let h = all_counted a.s a.now a.from a.p.now (record { client = a.client.now; post = a.post.now }) in
    let took = c.in_ok-told.ensures.done in
    omega (arith, h.fewer, h.whole, c.len.ensures, ap length took.finished, ap length c.log-before.ensures, ap length c.log.ensures, ap (λ (x : Client). length x.log) took.client_then)

pub returns-clause-lines : goal.returns-clause-lines
returns-clause-lines c =
    let a = c.args in
    let h = all_counted a.s a.now a.from a.p.now (record { client = a.client.now; post = a.post.now }) in
    let took = c.in_ok-told.ensures.done in
    omega (arith, h.fewer, h.whole, c.len.ensures, ap length took.finished, ap length c.log-before.ensures, ap length c.log.ensures, ap (λ (x : Client). length x.log) took.client_then)
