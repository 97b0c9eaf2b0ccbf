-- Where tags stand: for each byte of a spelling, whether a message, field, value, operation, reply, effect, vote or end begins there.
use Rattle.std.specs.Prelude.{Bool, true, false, List, ◌∷◌, ◌++◌}
use Rattle.fs_field.specs.declared.field.Field.{Field}
use Rattle.fs_field.specs.declared.lease_kind.LeaseKind.{LeaseKind}
use Rattle.fs_record.specs.declared.parcel.Parcel.{Parcel}
use Rattle.fs_record.specs.declared.led_end.LedEnd.{LedEnd}
use Rattle.fs_record.specs.declared.led_end.LedEnd.TheVariants as led_
use Rattle.fs_msg.specs.declared.lead.Lead.{Lead}
use Rattle.fs_msg.specs.declared.prepare.Prepare.{Prepare}
use Rattle.fs_msg.specs.declared.voted.Voted.{Voted}
use Rattle.fs_msg.specs.declared.decide.Decide.{Decide}
use Rattle.fs_msg.specs.declared.entry.Entry.{Entry}
use Rattle.fs_msg.specs.declared.answer.Grant.{Grant}
use Rattle.fs_msg.specs.declared.answer.Answer.{Answer}
use Rattle.fs_msg.specs.declared.answer.Answer.TheVariants as answer_
use Rattle.fs_msg.specs.declared.client_msg.ClientMsg.{ClientMsg}
use Rattle.fs_msg.specs.declared.client_msg.ClientMsg.TheVariants as client_
use Rattle.fs_msg.specs.declared.peer_msg.PeerMsg.{PeerMsg}
use Rattle.fs_msg.specs.declared.peer_msg.PeerMsg.TheVariants as peer_
use Rattle.fs_msg.specs.declared.msg.Msg.{Msg}
use Rattle.fs_msg.specs.declared.msg.Msg.TheVariants as msg_
use Rattle.fs_wire.specs.Spelling.{eight, option, list, identifier, session, lease, transaction, path_lease}
use Rattle.fs_wire.specs.Spelling.{kind, lease_kind, pair, field, value, op, reply, effect, vote}
use Rattle.fs_wire.specs.Tags.{plain, one_tag, list_tags, lease_use_tags, row_tags, part_tags}
use Rattle.fs_msg.specs.Spelling.{done, end, why, file_record, piece}

unfoldable pub entry_tags : Entry → List Bool
entry_tags e = plain (eight e.n) ++ (one_tag (op e.op) ++ (one_tag (reply e.reply) ++ list_tags lease_use_tags e.uses))

-- the end of a led operation is a tag, and behind it a reply and a reason are one more
unfoldable pub led_end_tags : LedEnd → List Bool
led_end_tags (led_.Done r) = true ∷ one_tag (reply r)
led_end_tags (led_.Ended missed until now) = true ∷ plain (lease missed ++ (eight until ++ eight now))
led_end_tags (led_.Again w) = true ∷ one_tag (why w)

unfoldable pub lead_tags : Lead → List Bool
lead_tags m = plain (eight m.n)
    ++ (one_tag (op m.op) ++ (plain (identifier m.file) ++ (plain (kind m.kind) ++ list_tags lease_use_tags m.uses)))

unfoldable pub prepare_tags : Prepare → List Bool
prepare_tags m = plain (transaction m.txn) ++ (false ∷ plain (session m.session) ++ part_tags m.part)

unfoldable pub voted_tags : Voted → List Bool
voted_tags m = plain (transaction m.txn) ++ (false ∷ one_tag (vote m.vote))

unfoldable pub decide_tags : Decide → List Bool
decide_tags m = plain (transaction m.txn) ++ (false ∷ list_tags (λ e. one_tag (effect e)) m.effects)

unfoldable pub grant_tags : Grant → List Bool
grant_tags g = plain (lease g.no)
    ++ (one_tag (field g.field) ++ (plain (lease_kind g.kind) ++ (plain (eight g.until) ++ one_tag (value g.value))))

-- a field with the kind of a lease on it
abbrev pub item_tags : Field × LeaseKind → List Bool
item_tags item = one_tag (field item.0) ++ plain (lease_kind item.1)

unfoldable pub client_tags : ClientMsg → List Bool
client_tags (client_.Ask items fresh) = true ∷ list_tags item_tags items ++ plain (option identifier fresh)
client_tags (client_.Renew pairs) = true ∷ plain (list (pair identifier lease) pairs)
client_tags (client_.Release pairs) = true ∷ plain (list (pair identifier lease) pairs)
client_tags (client_.Ship entries) = true ∷ list_tags entry_tags entries
client_tags (client_.Lead m) = true ∷ lead_tags m

unfoldable pub answer_tags : Answer → List Bool
answer_tags (answer_.Granted grants fresh e) = true ∷ list_tags grant_tags grants ++ (plain (option identifier fresh) ++ one_tag (end e))
answer_tags (answer_.Renewed rows e) = true ∷ plain (list (pair lease (option eight)) rows) ++ one_tag (end e)
answer_tags (answer_.Released count e) = true ∷ plain (eight count) ++ one_tag (end e)
answer_tags (answer_.Shipped count e) = true ∷ plain (eight count) ++ one_tag (end e)
answer_tags (answer_.Led e) = true ∷ led_end_tags e
answer_tags (answer_.Recall wanted) = true ∷ plain (lease wanted)

-- of what is in a parcel, rows alone have tags, those of their fields
unfoldable pub parcel_tags : Parcel → List Bool
parcel_tags p = plain (identifier p.prefix)
    ++ (plain (piece p.piece) ++ (plain (list (pair identifier file_record) p.records) ++ list_tags row_tags p.rows))

unfoldable pub peer_tags : PeerMsg → List Bool
peer_tags (peer_.Prepare m) = true ∷ prepare_tags m
peer_tags (peer_.Vote m) = true ∷ voted_tags m
peer_tags (peer_.Decide m) = true ∷ decide_tags m
peer_tags (peer_.Done m) = true ∷ plain (done m)
peer_tags (peer_.Parcel p) = true ∷ parcel_tags p
peer_tags (peer_.PathAsk file parent) = true ∷ plain (identifier file ++ identifier parent)
peer_tags (peer_.PathGrant given file path) = true ∷ plain (path_lease given ++ (identifier file ++ list identifier path))
peer_tags (peer_.PathNo file w) = true ∷ plain (identifier file) ++ one_tag (why w)
peer_tags (peer_.PathRecall given) = true ∷ plain (path_lease given)
peer_tags (peer_.PathRelease given) = true ∷ plain (path_lease given)

unfoldable pub tags_of : Msg → List Bool
tags_of (msg_.Client m) = client_tags m
tags_of (msg_.Answer a) = answer_tags a
tags_of (msg_.Peer m) = peer_tags m
