use Rattle.fs_wire.proofs.Places.{are_apart}
use Rattle.fs_msg.proofs.LedWires.{why-wire, led_end-wire, lead-wire, prepare-wire, voted-wire, decide-wire, done-wire}
use Rattle.fs_msg.proofs.law.what_led_messages_carry_is_apart.Goals as goal

pub returns : goal.returns
returns c = record {
  whys = are_apart why-wire;
  ends = are_apart led_end-wire;
  leads = are_apart lead-wire;
  prepares = are_apart prepare-wire;
  votes = are_apart voted-wire;
  decides = are_apart decide-wire;
  dones = are_apart done-wire;
}
