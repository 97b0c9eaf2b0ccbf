use Rattle.std.proofs.Common.{◌≡◌, ◌<◌, length, sym, subst, arith}
use Rattle.std.specs.Prelude.{Some, None, IfOk, slice_get}
use Rattle.fs_world.specs.Calls.{world_left}
use Rattle.fs_world.specs.Served.{Stepped, at_server, core_step, server_step, with_server}
use Rattle.fs_world.specs.declared.servers.world.Served.{Served}
use Rattle.fs_world.proofs.AtServer.{item_there, own_after, served_at, served_by, step_there}
use Rattle.fs_world.proofs.servers.world.Served.server_step.Goals as goal

there : (c : goal.After-self-2-1) → slice_get c.args.self.now.servers c.args.k ≡ Some c.at_mut-core.result.now
there c = item_there c.args.self.now.servers c.args.k c.at_mut-core.result.now c.requires.there c.at_mut-core.ensures.value

tied : (c : goal.After-self-2-1) → slice_get c.args.self.now.posts c.args.k ≡ Some c.at_mut.result.now
tied c =
    let below : c.args.k < length c.args.self.now.posts = omega (arith, c.requires.there, c.requires.linked.posts) in
    item_there c.args.self.now.posts c.args.k c.at_mut.result.now below c.at_mut.ensures.value

is_step : (c : goal.After-self-2-1) → server_step c.args.k c.args.turn c.args.now c.args.event.now c.args.self.now ≡ with_server c.args.k
    (core_step c.args.k c.args.turn None c.args.now c.args.event.now
    (at_server c.at_mut-core.result.now c.at_mut.result.now c.args.self.now)) c.args.self.now
is_step c = step_there c.args.self.now c.args.k c.args.turn c.args.now c.args.event.now c.at_mut-core.result.now c.at_mut.result.now
    (there c) (tied c)

abbrev new : (c : goal.After-self-2-1) → Served
new c =
    let n = c.core_step.new in
    served_by c.args.self.now c.args.k n.core n.post n.sessions n.in_flight n.journal n.packets

done : (c : goal.After-self-2-1)
    → IfOk c.core_step.result (λ outcome. world_left outcome (new c) ≡ server_step c.args.k c.args.turn c.args.now c.args.event.now
    c.args.self.now)
done c =
    let a = c.args in
    let n = c.core_step.new in
    subst (λ (y : Stepped). IfOk c.core_step.result (λ outcome. world_left outcome (new c) ≡ y)) (sym (is_step c))
    (served_at c.core_step.result a.self.now a.k n.core n.post n.sessions n.in_flight n.journal n.packets
    (core_step a.k a.turn None a.now a.event.now (at_server c.at_mut-core.result.now c.at_mut.result.now a.self.now))
    c.core_step.ensures.done)

pub returns-clause-done : goal.returns-clause-done
returns-clause-done c = done c

pub returns-clause-linked : goal.returns-clause-linked
returns-clause-linked c =
    let a = c.args in
    own_after c.core_step.result a.self.now (new c) a.k a.turn a.now a.event.now c.at_mut-core.result.now c.at_mut.result.now (there c)
    (tied c) c.requires.own c.requires.linked (done c) c.core_step.ensures.fits

pub returns-clause-spends : goal.returns-clause-spends
returns-clause-spends c = rw (is_step c) c.core_step.ensures.spends
