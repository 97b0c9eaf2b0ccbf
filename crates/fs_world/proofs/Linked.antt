-- What holds of the links: it holds of the first world, each step keeps it, and what a core is told is the first message on
-- its way, as it was sent.
pub use Rattle.fs_world.proofs.LinkedFirst.{first_linked, join_linked, mark_linked}
pub use Rattle.fs_world.proofs.LinkedSession.{act_linked, packet_of, sent_between, sent_read, receive_packet_state_first}
pub use Rattle.fs_world.proofs.LinkedSession.{receive_packet_state_linked, turn_linked, went}
pub use Rattle.fs_world.proofs.LinkedCore.{server_linked, server_receive_first, receive_packet_server_linked}
pub use Rattle.fs_world.proofs.NamedClients.{answer_silent}
