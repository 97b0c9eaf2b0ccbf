use Rattle.fs_wire.proofs.Wires.{was_spelled}
use Rattle.fs_msg.proofs.LedWires.{why-wire, led_end-wire, lead-wire, prepare-wire, voted-wire, decide-wire, done-wire}
use Rattle.fs_msg.proofs.law.what_led_messages_carry_was_spelled.Goals as goal

pub returns : goal.returns
returns c = record {
  whys = was_spelled why-wire;
  ends = was_spelled led_end-wire;
  leads = was_spelled lead-wire;
  prepares = was_spelled prepare-wire;
  votes = was_spelled voted-wire;
  decides = was_spelled decide-wire;
  dones = was_spelled done-wire;
}
