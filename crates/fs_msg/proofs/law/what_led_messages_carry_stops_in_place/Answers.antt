use Rattle.fs_wire.proofs.Places.{stops_in_place}
use Rattle.fs_msg.proofs.LedWires.{why-wire, led_end-wire, lead-wire, prepare-wire, voted-wire, decide-wire, done-wire}
use Rattle.fs_msg.proofs.law.what_led_messages_carry_stops_in_place.Goals as goal

pub returns : goal.returns
returns c = record {
  whys = stops_in_place why-wire;
  ends = stops_in_place led_end-wire;
  leads = stops_in_place lead-wire;
  prepares = stops_in_place prepare-wire;
  votes = stops_in_place voted-wire;
  decides = stops_in_place decide-wire;
  dones = stops_in_place done-wire;
}
