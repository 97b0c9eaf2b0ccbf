use Rattle.fs_world.proofs.AtSession.{with_state_back}
use Rattle.fs_world.proofs.servers.world.Served.client_receive_packet.Goals as goal

pub returns-in-Some-clause-err : goal.returns-in-Some-clause-err
returns-in-Some-clause-err c =
    let n = c.receive_packet.new in
    with_state_back c.receive_packet.result c.args.self.now c.args.s c.in-Some.state.now n.state n.journal n.packets
    c.in-Some.ensures.value c.receive_packet.ensures.err
