-- Entries.
use Rattle.std.proofs.Common.{refl}
use Rattle.fs_wire.proofs.Wires.{IsWire, pair-wire, remade}
use Rattle.fs_wire.proofs.NumberWires.{eight-wire, list-wire}
use Rattle.fs_wire.proofs.FieldWires.{lease_use-wire}
use Rattle.fs_wire.proofs.OpWires.{op-wire}
use Rattle.fs_wire.proofs.ReplyWires.{reply-wire}
use Rattle.fs_msg.specs.Spelling.{entry}
use Rattle.fs_msg.specs.Ranges.{FitsEntry}
use Rattle.fs_msg.specs.Tags.{entry_tags}
use Rattle.fs_msg.specs.Reading.{entry_at}

pub entry-wire : IsWire entry_at FitsEntry entry entry_tags
unfolding entry_at entry entry_tags
entry-wire = remade _ (λ e. (e.n, (e.op, (e.reply, e.uses)))) FitsEntry entry entry_tags (pair-wire eight-wire (pair-wire op-wire (pair-wire reply-wire (list-wire lease_use-wire))))
    (λ v f. record { n = f.0; op = f.1.0; reply = f.1.1.0; uses = f.1.1.1 }) (λ w f. (f.n, (f.op, (f.reply, f.uses)))) (λ v. refl) (λ w s. s)
