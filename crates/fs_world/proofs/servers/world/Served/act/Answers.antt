use Rattle.std.proofs.Common.{sym}
use Rattle.std.specs.Prelude.{Some, None, if◌then◌else◌}
use Rattle.fs_msg.specs.declared.core_error.Counter.TheVariants.{Entries}
use Rattle.fs_client.specs.Acts.{act_plan, is_act_spent}
use Rattle.fs_world.specs.Linked.{FitsUp}
use Rattle.fs_actor.specs.Actor.{is_full_up}
use Rattle.fs_world.specs.Served.{client_acts, with_session}
use Rattle.fs_world.proofs.AtSession.{linked_after, with_state, with_state_at, with_state_back}
use Rattle.fs_world.proofs.Spending.{has_room}
use Rattle.fs_world.proofs.Linked.{act_linked}
use Rattle.fs_world.proofs.servers.world.Served.act.Goals as goal

pub returns-in-Some-clause-linked : goal.returns-in-Some-clause-linked
returns-in-Some-clause-linked c =
    let a = c.args in
    let w = a.self.now in
    let state = c.in-Some.state.now in
    let x = client_acts a.now a.s a.op.now state w.journal w.packets in
    let n = c.acts.new in
    linked_after c.acts.result (with_state w a.s n.state n.journal n.packets) (with_session a.s x w)
    (FitsUp (act_plan state.client a.now a.op.now).out.send)
    (λ fits room. act_linked w a.s state a.now a.op.now (sym c.in-Some.ensures.value) c.requires.called fits
    (has_room (if is_act_spent state.client a.now a.op.now then Some Entries else None)
    (is_full_up (act_plan state.client a.now a.op.now).out.send state.post) room) c.requires.linked)
    (with_state_at c.acts.result w a.s n.state n.journal n.packets x c.acts.ensures.done)
    c.acts.ensures.fits

pub returns-in-Some-clause-err : goal.returns-in-Some-clause-err
returns-in-Some-clause-err c =
    let n = c.acts.new in
    with_state_back c.acts.result c.args.self.now c.args.s c.in-Some.state.now n.state n.journal n.packets c.in-Some.ensures.value
    c.acts.ensures.err
