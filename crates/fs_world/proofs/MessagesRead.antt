-- What can be spelled can be read.
use Rattle.std.proofs.Common.{◌≡◌, true, List, [], ◌∷◌, refl}
use Rattle.std.specs.List.{AllByRecursion, list_all}
use Rattle.fs_ident.proofs.Booleans.{joined as both_joined}
use Rattle.fs_model.specs.declared.op.Op.{Op}
use Rattle.fs_model.specs.declared.op.Op.TheVariants as op
use Rattle.fs_wire.specs.Ranges.{FitsOp}
use Rattle.fs_wire.specs.Readable.{is_readable_op}
use Rattle.fs_msg.specs.Ranges.{FitsEntry, FitsMessage}
use Rattle.fs_msg.specs.Readable.{is_readable, is_readable_entry}
use Rattle.fs_msg.specs.declared.client_msg.ClientMsg.{ClientMsg}
use Rattle.fs_msg.specs.declared.client_msg.ClientMsg.TheVariants as client
use Rattle.fs_msg.specs.declared.entry.Entry.{Entry}
use Rattle.fs_msg.specs.declared.msg.Msg.TheVariants as msg
use Rattle.fs_world.proofs.NamedServers.{in_range}

op_readable : (o : Op) → FitsOp o → is_readable_op o ≡ true
op_readable (op.OpenFile file n modes) h = h.2
op_readable (op.Reap file s) h = in_range s.0 1 _ h.1.0 h.1.1
op_readable (op.Lookup dir name) h = refl
op_readable (op.List dir) h = refl
op_readable (op.Kind file) h = refl
op_readable (op.Info file) h = refl
op_readable (op.Create dir name kind id) h = refl
op_readable (op.Close file n) h = refl
op_readable (op.Set file n size stamp) h = refl
op_readable (op.Delete dir name) h = refl
op_readable (op.Rename sdir sname ddir dname) h = refl

entries_readable : (es : List Entry) → AllByRecursion FitsEntry es → list_all is_readable_entry es ≡ true
entries_readable [] h = refl
entries_readable (e ∷ es) h =
    both_joined (is_readable_entry e) (list_all is_readable_entry es) (op_readable e.op h.0.op) (entries_readable es h.1)

pub message_readable : (m : ClientMsg) → FitsMessage (msg.Client m) → is_readable (msg.Client m) ≡ true
message_readable (client.Ask items fresh) h = refl
message_readable (client.Renew pairs) h = refl
message_readable (client.Release pairs) h = refl
message_readable (client.Ship entries) h = entries_readable entries h.1
message_readable (client.Lead m) h = op_readable m.op h.op
