-- Reading messages from left to right, with the place where it stops.
use Rattle.std.specs.Prelude.{ℕ, Bool, true, ◌&&◌, ◌||◌, nat_le, ◌==◌}
use Rattle.fs_map.specs.declared.piece.MapPiece.{MapPiece}
use Rattle.fs_record.specs.declared.record.Record.{Record}
use Rattle.fs_record.specs.declared.parcel.Parcel.{Parcel}
use Rattle.fs_record.specs.declared.led_end.Why.{Why}
use Rattle.fs_record.specs.declared.led_end.Why.TheVariants as why_
use Rattle.fs_record.specs.declared.led_end.LedEnd.{LedEnd}
use Rattle.fs_record.specs.declared.led_end.LedEnd.TheVariants as led_
use Rattle.fs_msg.specs.declared.lead.Lead.{Lead}
use Rattle.fs_msg.specs.declared.prepare.Prepare.{Prepare}
use Rattle.fs_msg.specs.declared.voted.Voted.{Voted}
use Rattle.fs_msg.specs.declared.decide.Decide.{Decide}
use Rattle.fs_msg.specs.declared.done.Done.{Done}
use Rattle.fs_msg.specs.declared.entry.Entry.{Entry}
use Rattle.fs_msg.specs.declared.end.End.{End}
use Rattle.fs_msg.specs.declared.end.End.TheVariants as end_
use Rattle.fs_msg.specs.declared.answer.Grant.{Grant}
use Rattle.fs_msg.specs.declared.answer.Answer.{Answer}
use Rattle.fs_msg.specs.declared.answer.Answer.TheVariants as answer_
use Rattle.fs_msg.specs.declared.client_msg.ClientMsg.{ClientMsg}
use Rattle.fs_msg.specs.declared.client_msg.ClientMsg.TheVariants as client_
use Rattle.fs_msg.specs.declared.peer_msg.PeerMsg.{PeerMsg}
use Rattle.fs_msg.specs.declared.peer_msg.PeerMsg.TheVariants as peer_
use Rattle.fs_msg.specs.declared.msg.Msg.{Msg}
use Rattle.fs_msg.specs.declared.msg.Msg.TheVariants as msg_
use Rattle.fs_wire.specs.Readers.{Reader, then_at, map_at, always_at, either_at, pair_at, one_at, byte_at, tag_at, eight_at, list_at, option_at, truth_at}
use Rattle.fs_wire.specs.Reading.{kind_at, lease_kind_at, identifier_at, session_at, lease_at, transaction_at, path_lease_at, field_at, value_at, lease_use_at, op_at, reply_at, row_at, node_at, next_at, effect_at, part_at, vote_at}

unfoldable pub entry_at : Reader Entry
entry_at bytes = map_at (λ x. record { n = x.0; op = x.1.0; reply = x.1.1.0; uses = x.1.1.1 })
    (pair_at eight_at (pair_at op_at (pair_at reply_at (list_at lease_use_at)))) bytes

abbrev pub end_of : ℕ → Reader End
end_of tag =
    either_at (tag == 0) (always_at end_.All) (
    either_at (tag == 1) (map_at (λ x. end_.Wait x) lease_at) (
    either_at (tag == 2) (map_at (λ x. end_.Locked x) transaction_at) (
    either_at (tag == 3) (map_at (λ x. end_.Moved x.0 x.1) (pair_at identifier_at byte_at)) (
    either_at (tag == 4) (map_at (λ x. end_.NoIds x) identifier_at) (
    map_at (λ x. end_.Ended x.0 x.1.0 x.1.1.0 x.1.1.1) (pair_at eight_at (pair_at lease_at (pair_at eight_at eight_at))))))))

unfoldable pub end_at : Reader End
end_at bytes = then_at (tag_at 6) end_of bytes

abbrev pub why_of : ℕ → Reader Why
why_of tag =
    either_at (tag == 0) (map_at (λ x. why_.Moved x.0 x.1) (pair_at identifier_at byte_at)) (
    either_at (tag == 1) (map_at (λ x. why_.Wanted x) identifier_at) (
    either_at (tag == 2) (map_at (λ x. why_.Frozen x.0 x.1) (pair_at identifier_at transaction_at)) (
    either_at (tag == 3) (map_at (λ x. why_.PathsOut x) path_lease_at) (
    either_at (tag == 4) (always_at why_.Changed) (
    always_at why_.NoChild)))))

unfoldable pub why_at : Reader Why
why_at bytes = then_at (tag_at 6) why_of bytes

abbrev pub led_end_of : ℕ → Reader LedEnd
led_end_of tag =
    either_at (tag == 0) (map_at (λ x. led_.Done x) reply_at) (
    either_at (tag == 1) (map_at (λ x. led_.Ended x.0 x.1.0 x.1.1) (pair_at lease_at (pair_at eight_at eight_at))) (
    map_at (λ x. led_.Again x) why_at))

unfoldable pub led_end_at : Reader LedEnd
led_end_at bytes = then_at (tag_at 3) led_end_of bytes

unfoldable pub lead_at : Reader Lead
lead_at bytes = map_at (λ x. record { n = x.0; op = x.1.0; file = x.1.1.0; kind = x.1.1.1.0; uses = x.1.1.1.1 })
    (pair_at eight_at (pair_at op_at (pair_at identifier_at (pair_at kind_at (list_at lease_use_at))))) bytes

unfoldable pub prepare_at : Reader Prepare
prepare_at bytes = map_at (λ x. record { txn = x.0; number = x.1.0; session = x.1.1.0; part = x.1.1.1 })
    (pair_at transaction_at (pair_at byte_at (pair_at session_at part_at))) bytes

unfoldable pub voted_at : Reader Voted
voted_at bytes = map_at (λ x. record { txn = x.0; number = x.1.0; vote = x.1.1 }) (pair_at transaction_at (pair_at byte_at vote_at)) bytes

unfoldable pub decide_at : Reader Decide
decide_at bytes = map_at (λ x. record { txn = x.0; number = x.1.0; effects = x.1.1 })
    (pair_at transaction_at (pair_at byte_at (list_at effect_at))) bytes

unfoldable pub done_at : Reader Done
done_at bytes = map_at (λ x. record { txn = x.0; number = x.1 }) (pair_at transaction_at byte_at) bytes

unfoldable pub grant_at : Reader Grant
grant_at bytes = map_at (λ x. record { no = x.0; field = x.1.0; kind = x.1.1.0; until = x.1.1.1.0; value = x.1.1.1.1 })
    (pair_at lease_at (pair_at field_at (pair_at lease_kind_at (pair_at eight_at value_at)))) bytes

unfoldable pub record_at : Reader Record
record_at bytes = map_at (λ x. record { node = x.0; next = x.1 }) (pair_at node_at next_at) bytes

unfoldable pub piece_at : Reader MapPiece
piece_at bytes = map_at (λ x. record { prefix = x.0; given = x.1 }) (pair_at identifier_at (list_at (pair_at identifier_at truth_at))) bytes

unfoldable pub parcel_at : Reader Parcel
parcel_at bytes = map_at (λ x. record { prefix = x.0; piece = x.1.0; records = x.1.1.0; rows = x.1.1.1 })
    (pair_at identifier_at (pair_at piece_at (pair_at (list_at (pair_at identifier_at record_at)) (list_at row_at)))) bytes

-- the tags of clients' messages, those of answers, and those of messages between servers
abbrev pub is_client_tag : ℕ → Bool
is_client_tag b = nat_le 1 b && nat_le b 5

abbrev pub is_answer_tag : ℕ → Bool
is_answer_tag b = nat_le 17 b && nat_le b 22

abbrev pub is_peer_tag : ℕ → Bool
is_peer_tag b = nat_le 33 b && nat_le b 42

abbrev pub is_message_tag : ℕ → Bool
is_message_tag b = is_client_tag b || (is_answer_tag b || is_peer_tag b)

-- what stands behind the tag of a client's message
abbrev pub client_of : ℕ → Reader ClientMsg
client_of tag =
    either_at (tag == 1)
    (map_at (λ x. client_.Ask x.0 x.1) (pair_at (list_at (pair_at field_at lease_kind_at)) (option_at identifier_at))) (
    either_at (tag == 2) (map_at (λ x. client_.Renew x) (list_at (pair_at identifier_at lease_at))) (
    either_at (tag == 3) (map_at (λ x. client_.Release x) (list_at (pair_at identifier_at lease_at))) (
    either_at (tag == 4) (map_at (λ x. client_.Ship x) (list_at entry_at)) (
    map_at (λ x. client_.Lead x) lead_at))))

-- what stands behind the tag of an answer
abbrev pub answer_of : ℕ → Reader Answer
answer_of tag =
    either_at (tag == 17)
    (map_at (λ x. answer_.Granted x.0 x.1.0 x.1.1) (pair_at (list_at grant_at) (pair_at (option_at identifier_at) end_at))) (
    either_at (tag == 18) (map_at (λ x. answer_.Renewed x.0 x.1) (pair_at (list_at (pair_at lease_at (option_at eight_at))) end_at)) (
    either_at (tag == 19) (map_at (λ x. answer_.Released x.0 x.1) (pair_at eight_at end_at)) (
    either_at (tag == 20) (map_at (λ x. answer_.Shipped x.0 x.1) (pair_at eight_at end_at)) (
    either_at (tag == 21) (map_at (λ x. answer_.Led x) led_end_at) (
    map_at (λ x. answer_.Recall x) lease_at)))))

-- what stands behind the tag of a message between servers
abbrev pub peer_of : ℕ → Reader PeerMsg
peer_of tag =
    either_at (tag == 33) (map_at (λ x. peer_.Prepare x) prepare_at) (
    either_at (tag == 34) (map_at (λ x. peer_.Vote x) voted_at) (
    either_at (tag == 35) (map_at (λ x. peer_.Decide x) decide_at) (
    either_at (tag == 36) (map_at (λ x. peer_.Done x) done_at) (
    either_at (tag == 37) (map_at (λ x. peer_.Parcel x) parcel_at) (
    either_at (tag == 38) (map_at (λ x. peer_.PathAsk x.0 x.1) (pair_at identifier_at identifier_at)) (
    either_at (tag == 39)
    (map_at (λ x. peer_.PathGrant x.0 x.1.0 x.1.1) (pair_at path_lease_at (pair_at identifier_at (list_at identifier_at)))) (
    either_at (tag == 40) (map_at (λ x. peer_.PathNo x.0 x.1) (pair_at identifier_at why_at)) (
    either_at (tag == 41) (map_at (λ x. peer_.PathRecall x) path_lease_at) (
    map_at (λ x. peer_.PathRelease x) path_lease_at)))))))))

-- what stands behind a tag
abbrev pub message_of : ℕ → Reader Msg
message_of tag =
    either_at (is_client_tag tag) (map_at (λ x. msg_.Client x) (client_of tag)) (
    either_at (is_answer_tag tag) (map_at (λ x. msg_.Answer x) (answer_of tag)) (
    map_at (λ x. msg_.Peer x) (peer_of tag)))

unfoldable pub message_at : Reader Msg
message_at bytes = then_at (one_at true is_message_tag) message_of bytes
