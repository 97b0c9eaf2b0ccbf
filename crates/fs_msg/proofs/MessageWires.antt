-- Messages: each kind of them behind its tags.
use Rattle.std.proofs.Common.{◌≡◌, ℕ, ◌<◌, not, ◌||◌, Bool, true, false, List, ◌∷◌, ◌++◌, refl, subst, arith}
use Rattle.std.proofs.lemmas.Bool.{not-true, or_left, or_right, agree_below_at}
use Rattle.fs_msg.specs.declared.client_msg.ClientMsg.{ClientMsg}
use Rattle.fs_msg.specs.declared.answer.Answer.{Answer}
use Rattle.fs_msg.specs.declared.peer_msg.PeerMsg.{PeerMsg}
use Rattle.fs_msg.specs.declared.msg.Msg.{Msg}
use Rattle.fs_msg.specs.declared.msg.Msg.TheVariants as msg_
use Rattle.fs_wire.specs.Readers.{Reader, map_at, either_at, one_at}
use Rattle.fs_wire.proofs.Readers.{IsOne, IsReader, then-reader, map-reader, either-reader, one-reader}
use Rattle.fs_wire.proofs.Says.{Says, says-then, says-map, says-one}
use Rattle.fs_wire.proofs.Behind.{IsBehind, first-says, second-says, other, implied}
use Rattle.fs_wire.proofs.Wires.{Spelled, IsWire}
use Rattle.fs_msg.specs.Spelling.{client_message, answer, peer_message, message}
use Rattle.fs_msg.specs.Ranges.{FitsClientMessage, FitsAnswer, FitsPeerMessage, FitsMessage}
use Rattle.fs_msg.specs.Tags.{client_tags, answer_tags, peer_tags, tags_of}
use Rattle.fs_msg.specs.Reading.{is_client_tag, is_answer_tag, is_peer_tag, is_message_tag, client_of, answer_of, peer_of, message_of, message_at}
use Rattle.fs_msg.proofs.ClientWires.{client-reads, client-says}
use Rattle.fs_msg.proofs.AnswerWires.{answer-reads, answer-says}
use Rattle.fs_msg.proofs.PeerWires.{peer-reads, peer-says}

message-reads : IsReader message_at (Spelled FitsMessage message)
unfolding message_at message
message-reads = then-reader (one_at true is_message_tag) message_of (IsOne is_message_tag) (Spelled FitsMessage message) (one-reader true is_message_tag 1 (omega arith) refl) (λ tag t q.
    either-reader _ _ _ _
    (λ client. map-reader (λ x. msg_.Client x) (client_of tag) (λ w u. Spelled FitsClientMessage client_message w (t ++ u)) (λ w u. Spelled FitsMessage message w (t ++ u)) (client-reads tag t q client) (λ v u s. record { fits = s.fits; text_is = s.text_is }))
    (λ no_client. either-reader _ _ _ _
    (λ answer_. map-reader (λ x. msg_.Answer x) (answer_of tag) (λ w u. Spelled FitsAnswer answer w (t ++ u)) (λ w u. Spelled FitsMessage message w (t ++ u)) (answer-reads tag t q answer_) (λ v u s. record { fits = s.fits; text_is = s.text_is }))
    (λ no_answer. map-reader (λ x. msg_.Peer x) (peer_of tag) (λ w u. Spelled FitsPeerMessage peer_message w (t ++ u)) (λ w u. Spelled FitsMessage message w (t ++ u)) (peer-reads tag t q (other _ _ (other _ _ q.passes no_client) no_answer)) (λ v u s. record { fits = s.fits; text_is = s.text_is }))))

-- no tag is of two kinds
abbrev is_no_answer_or_no_client : ℕ → Bool
is_no_answer_or_no_client b = not (is_answer_tag b) || not (is_client_tag b)

abbrev is_no_peer_or_no_client : ℕ → Bool
is_no_peer_or_no_client b = not (is_peer_tag b) || not (is_client_tag b)

abbrev is_no_peer_or_no_answer : ℕ → Bool
is_no_peer_or_no_answer b = not (is_peer_tag b) || not (is_answer_tag b)

no-client : (tag : ℕ) → tag < 256 → is_answer_tag tag ≡ true → is_client_tag tag ≡ false
no-client tag lt passes = not-true (is_client_tag tag) (implied _ _ (agree_below_at is_no_answer_or_no_client (λ b. true) 256 tag refl lt) passes)

no-client-of-peer : (tag : ℕ) → tag < 256 → is_peer_tag tag ≡ true → is_client_tag tag ≡ false
no-client-of-peer tag lt passes = not-true (is_client_tag tag) (implied _ _ (agree_below_at is_no_peer_or_no_client (λ b. true) 256 tag refl lt) passes)

no-answer-of-peer : (tag : ℕ) → tag < 256 → is_peer_tag tag ≡ true → is_answer_tag tag ≡ false
no-answer-of-peer tag lt passes = not-true (is_answer_tag tag) (implied _ _ (agree_below_at is_no_peer_or_no_answer (λ b. true) 256 tag refl lt) passes)

-- what stands behind the tags of answers and of messages between servers
abbrev not_client_of : ℕ → Reader Msg
not_client_of tag = either_at (is_answer_tag tag) (map_at (λ x. msg_.Answer x) (answer_of tag)) (map_at (λ x. msg_.Peer x) (peer_of tag))

of-client : (m : ClientMsg) → IsBehind client_of is_client_tag m (client_message m) (client_tags m) → Says message_at (msg_.Client m) (client_message m) (client_tags m)
unfolding message_at
of-client m b =
    let behind : Says (message_of b.tag) (msg_.Client m) b.rest b.marks = first-says (is_client_tag b.tag) (not_client_of b.tag) b.passes (says-map (λ x. msg_.Client x) b.says) in
    let all : Says message_at (msg_.Client m) (b.tag ∷ b.rest) (true ∷ b.marks) = says-then message_of (says-one true is_message_tag b.tag (or_left _ _ b.passes)) behind in
    subst (λ (text : List ℕ). Says message_at (msg_.Client m) text (client_tags m)) b.text_is (subst (λ (tags : List Bool). Says message_at (msg_.Client m) (b.tag ∷ b.rest) tags) b.tags_is all)

of-answer : (a : Answer) → IsBehind answer_of is_answer_tag a (answer a) (answer_tags a) → Says message_at (msg_.Answer a) (answer a) (answer_tags a)
unfolding message_at
of-answer a b =
    let behind : Says (message_of b.tag) (msg_.Answer a) b.rest b.marks = second-says (is_client_tag b.tag) (map_at (λ x. msg_.Client x) (client_of b.tag)) (no-client b.tag b.below b.passes) (first-says (is_answer_tag b.tag) (map_at (λ x. msg_.Peer x) (peer_of b.tag)) b.passes (says-map (λ x. msg_.Answer x) b.says)) in
    let all : Says message_at (msg_.Answer a) (b.tag ∷ b.rest) (true ∷ b.marks) = says-then message_of (says-one true is_message_tag b.tag (or_right _ _ (or_left _ _ b.passes))) behind in
    subst (λ (text : List ℕ). Says message_at (msg_.Answer a) text (answer_tags a)) b.text_is (subst (λ (tags : List Bool). Says message_at (msg_.Answer a) (b.tag ∷ b.rest) tags) b.tags_is all)

of-peer : (m : PeerMsg) → IsBehind peer_of is_peer_tag m (peer_message m) (peer_tags m) → Says message_at (msg_.Peer m) (peer_message m) (peer_tags m)
unfolding message_at
of-peer m b =
    let behind : Says (message_of b.tag) (msg_.Peer m) b.rest b.marks = second-says (is_client_tag b.tag) (map_at (λ x. msg_.Client x) (client_of b.tag)) (no-client-of-peer b.tag b.below b.passes) (second-says (is_answer_tag b.tag) (map_at (λ x. msg_.Answer x) (answer_of b.tag)) (no-answer-of-peer b.tag b.below b.passes) (says-map (λ x. msg_.Peer x) b.says)) in
    let all : Says message_at (msg_.Peer m) (b.tag ∷ b.rest) (true ∷ b.marks) = says-then message_of (says-one true is_message_tag b.tag (or_right _ _ (or_right _ _ b.passes))) behind in
    subst (λ (text : List ℕ). Says message_at (msg_.Peer m) text (peer_tags m)) b.text_is (subst (λ (tags : List Bool). Says message_at (msg_.Peer m) (b.tag ∷ b.rest) tags) b.tags_is all)

message-says : (m : Msg) → FitsMessage m → Says message_at m (message m) (tags_of m)
unfolding message tags_of
message-says (msg_.Client m) fits = of-client m (client-says m fits)
message-says (msg_.Answer a) fits = of-answer a (answer-says a fits)
message-says (msg_.Peer m) fits = of-peer m (peer-says m fits)

pub message-wire : IsWire message_at FitsMessage message tags_of
message-wire = record { reads = message-reads; says = message-says }
