use Rattle.fs_wire.proofs.FieldWires.{field-wire, value-wire, lease_use-wire}
use Rattle.fs_wire.proofs.OpWires.{op-wire}
use Rattle.fs_wire.proofs.ReplyWires.{reply-wire}
use Rattle.fs_wire.proofs.RowWires.{row-wire, node-wire}
use Rattle.fs_wire.proofs.NextWires.{next-wire}
use Rattle.fs_wire.proofs.EffectWires.{effect-wire}
use Rattle.fs_wire.proofs.PartWires.{part-wire, vote-wire}
use Rattle.fs_wire.proofs.Places.{stops_in_place}
use Rattle.fs_wire.proofs.law.reading_stops_in_place.Goals as goal

pub returns : goal.returns
returns c = record {
  fields = stops_in_place field-wire;
  values = stops_in_place value-wire;
  operations = stops_in_place op-wire;
  replies = stops_in_place reply-wire;
  uses = stops_in_place lease_use-wire;
  rows = stops_in_place row-wire;
  nodes = stops_in_place node-wire;
  nexts = stops_in_place next-wire;
  effects = stops_in_place effect-wire;
  parts = stops_in_place part-wire;
  votes = stops_in_place vote-wire;
}
