use Rattle.fs_wire.proofs.Wires.{is_read_back}
use Rattle.fs_msg.proofs.LedWires.{why-wire, led_end-wire, lead-wire, prepare-wire, voted-wire, decide-wire, done-wire}
use Rattle.fs_msg.proofs.law.what_led_messages_carry_is_read_back.Goals as goal

pub returns : goal.returns
returns c = record {
  whys = is_read_back why-wire;
  ends = is_read_back led_end-wire;
  leads = is_read_back lead-wire;
  prepares = is_read_back prepare-wire;
  votes = is_read_back voted-wire;
  decides = is_read_back decide-wire;
  dones = is_read_back done-wire;
}
