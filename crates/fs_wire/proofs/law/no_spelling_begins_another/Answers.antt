use Rattle.fs_wire.proofs.FieldWires.{field-wire, value-wire, lease_use-wire}
use Rattle.fs_wire.proofs.OpWires.{op-wire}
use Rattle.fs_wire.proofs.ReplyWires.{reply-wire}
use Rattle.fs_wire.proofs.RowWires.{row-wire, node-wire}
use Rattle.fs_wire.proofs.NextWires.{next-wire}
use Rattle.fs_wire.proofs.EffectWires.{effect-wire}
use Rattle.fs_wire.proofs.PartWires.{part-wire, vote-wire}
use Rattle.fs_wire.proofs.Places.{are_apart}
use Rattle.fs_wire.proofs.law.no_spelling_begins_another.Goals as goal

pub returns : goal.returns
returns c = record {
  fields = are_apart field-wire;
  values = are_apart value-wire;
  operations = are_apart op-wire;
  replies = are_apart reply-wire;
  uses = are_apart lease_use-wire;
  rows = are_apart row-wire;
  nodes = are_apart node-wire;
  nexts = are_apart next-wire;
  effects = are_apart effect-wire;
  parts = are_apart part-wire;
  votes = are_apart vote-wire;
}
