-- Which messages are read again from their bytes, beyond what their types say.
use Rattle.std.specs.Prelude.{Bool, true, ◌&&◌}
use Rattle.std.specs.List.{list_all}
use Rattle.fs_record.specs.declared.record.Record.{Record}
use Rattle.fs_record.specs.declared.parcel.Parcel.{Parcel}
use Rattle.fs_msg.specs.declared.lead.Lead.{Lead}
use Rattle.fs_msg.specs.declared.prepare.Prepare.{Prepare}
use Rattle.fs_msg.specs.declared.decide.Decide.{Decide}
use Rattle.fs_msg.specs.declared.entry.Entry.{Entry}
use Rattle.fs_msg.specs.declared.answer.Grant.{Grant}
use Rattle.fs_msg.specs.declared.answer.Answer.{Answer}
use Rattle.fs_msg.specs.declared.answer.Answer.TheVariants as answer_
use Rattle.fs_msg.specs.declared.client_msg.ClientMsg.{ClientMsg}
use Rattle.fs_msg.specs.declared.client_msg.ClientMsg.TheVariants as client_
use Rattle.fs_msg.specs.declared.peer_msg.PeerMsg.{PeerMsg}
use Rattle.fs_msg.specs.declared.peer_msg.PeerMsg.TheVariants as peer_
use Rattle.fs_msg.specs.declared.msg.Msg.{Msg}
use Rattle.fs_msg.specs.declared.msg.Msg.TheVariants as msg_
use Rattle.fs_wire.specs.Readable.{is_readable_session, is_readable_op, is_readable_value, is_readable_row, is_readable_node, is_readable_next, is_readable_effect}

-- its operation is readable
abbrev pub is_readable_entry : Entry → Bool
is_readable_entry e = is_readable_op e.op

-- its value is readable
abbrev pub is_readable_grant : Grant → Bool
is_readable_grant g = is_readable_value g.value

-- its operation is readable
abbrev pub is_readable_lead : Lead → Bool
is_readable_lead m = is_readable_op m.op

-- its session is one that there may be
abbrev pub is_readable_prepare : Prepare → Bool
is_readable_prepare m = is_readable_session m.session

-- its effects are readable
abbrev pub is_readable_decide : Decide → Bool
is_readable_decide m = list_all is_readable_effect m.effects

-- the entries that it hands in are readable, and what is to be led
abbrev pub is_readable_request : ClientMsg → Bool
is_readable_request (client_.Ship entries) = list_all is_readable_entry entries
is_readable_request (client_.Lead m) = is_readable_lead m
is_readable_request m = true

-- the leases that it grants are readable
abbrev pub is_readable_answer : Answer → Bool
is_readable_answer (answer_.Granted grants fresh e) = list_all is_readable_grant grants
is_readable_answer a = true

-- its node is readable, and so is its next number
abbrev pub is_readable_record : Record → Bool
is_readable_record r = is_readable_node r.node && is_readable_next r.next

-- its records are readable, and so are its rows
abbrev pub is_readable_parcel : Parcel → Bool
is_readable_parcel p = list_all (λ e. is_readable_record e.1) p.records && list_all is_readable_row p.rows

-- what it carries is readable
abbrev pub is_readable_peer_message : PeerMsg → Bool
is_readable_peer_message (peer_.Prepare m) = is_readable_prepare m
is_readable_peer_message (peer_.Decide m) = is_readable_decide m
is_readable_peer_message (peer_.Parcel p) = is_readable_parcel p
is_readable_peer_message m = true

abbrev pub is_readable : Msg → Bool
is_readable (msg_.Client m) = is_readable_request m
is_readable (msg_.Answer a) = is_readable_answer a
is_readable (msg_.Peer m) = is_readable_peer_message m
