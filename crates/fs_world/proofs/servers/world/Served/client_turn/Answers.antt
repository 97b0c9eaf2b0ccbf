use Rattle.std.proofs.Common.{sym}
use Rattle.std.specs.Prelude.{None}
use Rattle.fs_client.specs.Turns.{turn_plan}
use Rattle.fs_world.specs.Linked.{FitsUp}
use Rattle.fs_actor.specs.Actor.{is_full_up}
use Rattle.fs_world.specs.Served.{client_turns, with_session}
use Rattle.fs_world.proofs.AtSession.{linked_after, with_state, with_state_at, with_state_back}
use Rattle.fs_world.proofs.Spending.{has_room}
use Rattle.fs_world.proofs.Linked.{turn_linked}
use Rattle.fs_world.proofs.servers.world.Served.client_turn.Goals as goal

pub returns-in-Some-clause-linked : goal.returns-in-Some-clause-linked
returns-in-Some-clause-linked c =
    let a = c.args in
    let w = a.self.now in
    let state = c.in-Some.state.now in
    let x = client_turns a.now a.s state w.journal w.packets in
    let n = c.turns.new in
    linked_after c.turns.result (with_state w a.s n.state n.journal n.packets) (with_session a.s x w)
    (FitsUp (turn_plan state.client a.now).out.send)
    (λ fits room. turn_linked w a.s state a.now (sym c.in-Some.ensures.value) fits
    (has_room None (is_full_up (turn_plan state.client a.now).out.send state.post) room) c.requires.linked)
    (with_state_at c.turns.result w a.s n.state n.journal n.packets x c.turns.ensures.done)
    c.turns.ensures.fits

pub returns-in-Some-clause-err : goal.returns-in-Some-clause-err
returns-in-Some-clause-err c =
    let n = c.turns.new in
    with_state_back c.turns.result c.args.self.now c.args.s c.in-Some.state.now n.state n.journal n.packets c.in-Some.ensures.value
    c.turns.ensures.err
