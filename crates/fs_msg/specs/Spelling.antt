-- The one spelling of each message, as bytes, with its tag in front.
use Rattle.std.specs.Prelude.{ℕ, List, [], ◌∷◌, ◌++◌}
use Rattle.fs_map.specs.declared.piece.MapPiece.{MapPiece}
use Rattle.fs_record.specs.declared.record.Record.{Record}
use Rattle.fs_record.specs.declared.parcel.Parcel.{Parcel}
use Rattle.fs_record.specs.declared.led_end.Why.{Why}
use Rattle.fs_record.specs.declared.led_end.Why.TheVariants as why_
use Rattle.fs_record.specs.declared.led_end.LedEnd.{LedEnd}
use Rattle.fs_record.specs.declared.led_end.LedEnd.TheVariants as led_
use Rattle.fs_msg.specs.declared.lead.Lead.{Lead}
use Rattle.fs_msg.specs.declared.prepare.Prepare.{Prepare}
use Rattle.fs_msg.specs.declared.voted.Voted.{Voted}
use Rattle.fs_msg.specs.declared.decide.Decide.{Decide}
use Rattle.fs_msg.specs.declared.done.Done.{Done}
use Rattle.fs_msg.specs.declared.entry.Entry.{Entry}
use Rattle.fs_msg.specs.declared.end.End.{End}
use Rattle.fs_msg.specs.declared.end.End.TheVariants as end_
use Rattle.fs_msg.specs.declared.answer.Grant.{Grant}
use Rattle.fs_msg.specs.declared.answer.Answer.{Answer}
use Rattle.fs_msg.specs.declared.answer.Answer.TheVariants as answer_
use Rattle.fs_msg.specs.declared.client_msg.ClientMsg.{ClientMsg}
use Rattle.fs_msg.specs.declared.client_msg.ClientMsg.TheVariants as client_
use Rattle.fs_msg.specs.declared.peer_msg.PeerMsg.{PeerMsg}
use Rattle.fs_msg.specs.declared.peer_msg.PeerMsg.TheVariants as peer_
use Rattle.fs_msg.specs.declared.msg.Msg.{Msg}
use Rattle.fs_msg.specs.declared.msg.Msg.TheVariants as msg_
use Rattle.fs_wire.specs.Spelling.{truth, eight, option, list, pair, identifier, session, lease, transaction, path_lease, kind, lease_kind, field, value, op, reply, lease_use, row, node, effect, part, vote}

unfoldable pub entry : Entry → List ℕ
entry e = eight e.n ++ (op e.op ++ (reply e.reply ++ list lease_use e.uses))

unfoldable pub end : End → List ℕ
end end_.All = 0 ∷ []
end (end_.Wait blocker) = 1 ∷ lease blocker
end (end_.Locked txn) = 2 ∷ transaction txn
end (end_.Moved prefix to) = 3 ∷ identifier prefix ++ to ∷ []
end (end_.NoIds dir) = 4 ∷ identifier dir
end (end_.Ended n missed until now) = 5 ∷ eight n ++ (lease missed ++ (eight until ++ eight now))

-- why something has to be asked again
unfoldable pub why : Why → List ℕ
why (why_.Moved prefix to) = 0 ∷ identifier prefix ++ to ∷ []
why (why_.Wanted file) = 1 ∷ identifier file
why (why_.Frozen file txn) = 2 ∷ identifier file ++ transaction txn
why (why_.PathsOut given) = 3 ∷ path_lease given
why why_.Changed = 4 ∷ []
why why_.NoChild = 5 ∷ []

-- how a led operation ends
unfoldable pub led_end : LedEnd → List ℕ
led_end (led_.Done r) = 0 ∷ reply r
led_end (led_.Ended missed until now) = 1 ∷ lease missed ++ (eight until ++ eight now)
led_end (led_.Again w) = 2 ∷ why w

-- what the messages of led operations carry, behind their tags
unfoldable pub lead : Lead → List ℕ
lead m = eight m.n ++ (op m.op ++ (identifier m.file ++ (kind m.kind ++ list lease_use m.uses)))

unfoldable pub prepare : Prepare → List ℕ
prepare m = transaction m.txn ++ (m.number ∷ session m.session ++ part m.part)

unfoldable pub voted : Voted → List ℕ
voted m = transaction m.txn ++ (m.number ∷ vote m.vote)

unfoldable pub decide : Decide → List ℕ
decide m = transaction m.txn ++ (m.number ∷ list effect m.effects)

unfoldable pub done : Done → List ℕ
done m = transaction m.txn ++ m.number ∷ []

unfoldable pub grant : Grant → List ℕ
grant g = lease g.no ++ (field g.field ++ (lease_kind g.kind ++ (eight g.until ++ value g.value)))

unfoldable pub client_message : ClientMsg → List ℕ
client_message (client_.Ask items fresh) = 1 ∷ list (pair field lease_kind) items ++ option identifier fresh
client_message (client_.Renew pairs) = 2 ∷ list (pair identifier lease) pairs
client_message (client_.Release pairs) = 3 ∷ list (pair identifier lease) pairs
client_message (client_.Ship entries) = 4 ∷ list entry entries
client_message (client_.Lead m) = 5 ∷ lead m

unfoldable pub answer : Answer → List ℕ
answer (answer_.Granted grants fresh e) = 17 ∷ list grant grants ++ (option identifier fresh ++ end e)
answer (answer_.Renewed rows e) = 18 ∷ list (pair lease (option eight)) rows ++ end e
answer (answer_.Released count e) = 19 ∷ eight count ++ end e
answer (answer_.Shipped count e) = 20 ∷ eight count ++ end e
answer (answer_.Led e) = 21 ∷ led_end e
answer (answer_.Recall wanted) = 22 ∷ lease wanted

-- a file or a directory, and the next number in it
unfoldable pub file_record : Record → List ℕ
file_record r = node r.node ++ eight r.next

unfoldable pub piece : MapPiece → List ℕ
piece p = identifier p.prefix ++ list (pair identifier truth) p.given

unfoldable pub parcel : Parcel → List ℕ
parcel p = identifier p.prefix ++ (piece p.piece ++ (list (pair identifier file_record) p.records ++ list row p.rows))

unfoldable pub peer_message : PeerMsg → List ℕ
peer_message (peer_.Prepare m) = 33 ∷ prepare m
peer_message (peer_.Vote m) = 34 ∷ voted m
peer_message (peer_.Decide m) = 35 ∷ decide m
peer_message (peer_.Done m) = 36 ∷ done m
peer_message (peer_.Parcel p) = 37 ∷ parcel p
peer_message (peer_.PathAsk file parent) = 38 ∷ identifier file ++ identifier parent
peer_message (peer_.PathGrant given file path) = 39 ∷ path_lease given ++ (identifier file ++ list identifier path)
peer_message (peer_.PathNo file w) = 40 ∷ identifier file ++ why w
peer_message (peer_.PathRecall given) = 41 ∷ path_lease given
peer_message (peer_.PathRelease given) = 42 ∷ path_lease given

unfoldable pub message : Msg → List ℕ
message (msg_.Client m) = client_message m
message (msg_.Answer a) = answer a
message (msg_.Peer m) = peer_message m
