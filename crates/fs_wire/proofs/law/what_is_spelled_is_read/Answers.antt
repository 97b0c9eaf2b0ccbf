use Rattle.fs_wire.proofs.FieldWires.{field-wire, value-wire, lease_use-wire}
use Rattle.fs_wire.proofs.OpWires.{op-wire}
use Rattle.fs_wire.proofs.ReplyWires.{reply-wire}
use Rattle.fs_wire.proofs.RowWires.{row-wire, node-wire}
use Rattle.fs_wire.proofs.NextWires.{next-wire}
use Rattle.fs_wire.proofs.EffectWires.{effect-wire}
use Rattle.fs_wire.proofs.PartWires.{part-wire, vote-wire}
use Rattle.fs_wire.proofs.law.what_is_spelled_is_read.Goals as goal
use Rattle.fs_wire.proofs.Wires.{is_read_back}

pub returns : goal.returns
returns c = record {
  fields = is_read_back field-wire;
  values = is_read_back value-wire;
  operations = is_read_back op-wire;
  replies = is_read_back reply-wire;
  uses = is_read_back lease_use-wire;
  rows = is_read_back row-wire;
  nodes = is_read_back node-wire;
  nexts = is_read_back next-wire;
  effects = is_read_back effect-wire;
  parts = is_read_back part-wire;
  votes = is_read_back vote-wire;
}
