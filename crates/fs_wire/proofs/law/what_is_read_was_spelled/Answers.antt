use Rattle.fs_wire.proofs.FieldWires.{field-wire, value-wire, lease_use-wire}
use Rattle.fs_wire.proofs.OpWires.{op-wire}
use Rattle.fs_wire.proofs.ReplyWires.{reply-wire}
use Rattle.fs_wire.proofs.RowWires.{row-wire, node-wire}
use Rattle.fs_wire.proofs.NextWires.{next-wire}
use Rattle.fs_wire.proofs.EffectWires.{effect-wire}
use Rattle.fs_wire.proofs.PartWires.{part-wire, vote-wire}
use Rattle.fs_wire.proofs.Wires.{was_spelled}
use Rattle.fs_wire.proofs.law.what_is_read_was_spelled.Goals as goal

pub returns : goal.returns
returns c = record {
  fields = was_spelled field-wire;
  values = was_spelled value-wire;
  operations = was_spelled op-wire;
  replies = was_spelled reply-wire;
  uses = was_spelled lease_use-wire;
  rows = was_spelled row-wire;
  nodes = was_spelled node-wire;
  nexts = was_spelled next-wire;
  effects = was_spelled effect-wire;
  parts = was_spelled part-wire;
  votes = was_spelled vote-wire;
}
