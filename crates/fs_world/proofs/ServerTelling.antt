-- What a server answers to sessions whose operations it led is what it admits for them.
use Rattle.std.proofs.Common.{◌≡◌, ◌∙◌, ◌+◌, ◌≤◌, ℕ, ◌==◌, not, Bool, true, false, List, [], ◌∷◌, ◌++◌, map, append-nil, append_assoc, cond}
use Rattle.std.proofs.Common.{refl, ap, sym, subst, inl, inr, arith}
use Rattle.std.proofs.lemmas.List.Elements.{filter-append}
use Rattle.std.specs.Prelude.{Option, Some, None, is_some, slice_get, slice_set}
use Rattle.std.specs.List.{filter, list_all}
use Rattle.fs_ident.specs.In.{In}
use Rattle.fs_ident.specs.declared.actor.Peer.{Peer}
use Rattle.fs_ident.specs.declared.actor.Peer.TheVariants.{Client as OfSession, Server as OfServer}
use Rattle.fs_ident.specs.declared.actor.Session.{Session}
use Rattle.fs_ident.specs.declared.actor.TxnNo.{TxnNo}
use Rattle.fs_ident.proofs.Passing.{found}
use Rattle.fs_ident.proofs.Same.{itself, one_session}
use Rattle.fs_ident.proofs.Standing.{In-behind, In-front, In-got, In-mapped, none_pass}
use Rattle.fs_field.specs.Table.{same_txn}
use Rattle.fs_field.specs.declared.path.PathAnswer.{PathAnswer}
use Rattle.fs_field.specs.declared.path.PathAnswer.TheVariants as path
use Rattle.fs_field.specs.declared.used.Part.{Part}
use Rattle.fs_field.specs.declared.vote.Vote.{Vote as AVote}
use Rattle.fs_field.specs.declared.vote.Vote.TheVariants as vote
use Rattle.fs_map.specs.Map.{server_of}
use Rattle.fs_model.specs.declared.op.Op.{Op}
use Rattle.fs_model.specs.declared.reply.Reply.{Reply}
use Rattle.fs_model.specs.declared.reply.Reply.TheVariants as reply
use Rattle.fs_msg.specs.declared.answer.Answer.{Answer}
use Rattle.fs_msg.specs.declared.answer.Answer.TheVariants as answer
use Rattle.fs_msg.specs.declared.client_msg.ClientMsg.{ClientMsg}
use Rattle.fs_msg.specs.declared.client_msg.ClientMsg.TheVariants.{Ask, Renew, Release, Ship, Lead}
use Rattle.fs_msg.specs.declared.done.Done.{Done as IsDone}
use Rattle.fs_msg.specs.declared.entry.Entry.{Entry}
use Rattle.fs_msg.specs.declared.item.Item.{Item}
use Rattle.fs_msg.specs.declared.lead.Lead.{Lead as ToLead}
use Rattle.fs_msg.specs.declared.msg.Msg.{Msg}
use Rattle.fs_msg.specs.declared.msg.Msg.TheVariants as msg
use Rattle.fs_msg.specs.declared.peer_msg.PeerMsg.{PeerMsg}
use Rattle.fs_msg.specs.declared.peer_msg.PeerMsg.TheVariants.{Parcel as OfParcel, Prepare, Vote, Decide, Done}
use Rattle.fs_msg.specs.declared.prepare.Prepare.{Prepare as ToPrepare}
use Rattle.fs_msg.specs.declared.server_note.ServerNote.{ServerNote}
use Rattle.fs_msg.specs.declared.server_note.ServerNote.TheVariants as note
use Rattle.fs_msg.specs.declared.voted.Voted.{Voted}
use Rattle.fs_client.specs.Led.{lead_of}
use Rattle.fs_client.specs.declared.exchange.Exchange.{Exchange}
use Rattle.fs_client.specs.declared.led.Led.{Led}
use Rattle.fs_client.specs.declared.state.Client.{Client}
use Rattle.fs_parcel.specs.declared.error.MoveError.{MoveError}
use Rattle.fs_record.specs.Effects.{tells_its_effects}
use Rattle.fs_record.specs.declared.led_end.LedEnd.{LedEnd}
use Rattle.fs_record.specs.declared.led_end.LedEnd.TheVariants as end
use Rattle.fs_record.specs.declared.led_end.Why.TheVariants as why
use Rattle.fs_txn.specs.Deciding.{agreed, by_files, by_path, commit, decision, first_end, has_file, needs_path, reply_of, unless_ended}
use Rattle.fs_txn.specs.Leading.{awaits_done, elsewhere, end_of_decision, ending_of, leading_of, with_ending, without_done, without_ending}
use Rattle.fs_txn.specs.Votes.{Votes, votes_after}
use Rattle.fs_txn.specs.declared.decision.Decision.{Decision}
use Rattle.fs_txn.specs.declared.decision.Decision.TheVariants.{Commit, Abort}
use Rattle.fs_txn.specs.declared.leader.Leader.{Leader}
use Rattle.fs_txn.specs.declared.leading.Ending.{Ending}
use Rattle.fs_txn.specs.declared.leading.Leading.{Leading}
use Rattle.fs_txn.specs.declared.mode.Mode2.{Mode2}
use Rattle.fs_txn.specs.declared.mode.Mode2.TheVariants.{Check, Freeze, Plain}
use Rattle.fs_txn.proofs.Keys.{kept_in, txn_is}
use Rattle.fs_server.specs.Asks.{ask_step, asked_in, recalls_at}
use Rattle.fs_server.specs.Begins.{Round, first_round, leader_with, parts_in, part_round, round_of, rounds}
use Rattle.fs_server.specs.Begins.{txn_of}
use Rattle.fs_server.specs.Concludes.{admitted_of, concludes, ends_now, goes_on, path_for, tells, waits}
use Rattle.fs_server.specs.Counts.{after_own_vote, ask_for, done_of, done_with, seeks}
use Rattle.fs_server.specs.Counts.{vote_step}
use Rattle.fs_server.specs.Follows.{after_vote, applies, is_prepared, ready_of, recalls_for as paths_back, to_server, vote_here, votes}
use Rattle.fs_server.specs.Leads.{lead_step}
use Rattle.fs_server.specs.PathsHere.{asks_up}
use Rattle.fs_server.specs.Moves.{fits_here, move_at, move_step, parcel_at, peer_step}
use Rattle.fs_server.specs.Reaps.{lapsed_in, reap_from, recalls_for, turn_over, turn_step}
use Rattle.fs_server.specs.Server.{Stepped, begun, is_mine, strange, to_session}
use Rattle.fs_server.specs.Ships.{ship_from, ship_step, shipped}
use Rattle.fs_server.specs.Step.{event_step, message_step, recalled_on, recalls_of, step}
use Rattle.fs_server.specs.declared.event.ServerEvent.{ServerEvent}
use Rattle.fs_server.specs.declared.event.ServerEvent.TheVariants.{FromClient, FromPeer, Turn, Recall as TheRecall, Move}
use Rattle.fs_server.specs.declared.state.Server.{Server}
use Rattle.fs_server.proofs.Leading.{LeadEnds, begun as begins_it, kept as path_kept, lead_ends, put_off, unled, wanted}
use Rattle.fs_serial.specs.Cluster.{Cluster, IsThere, Lines, after_step, is_with, replies_after, with_item, with_items, without_question}
use Rattle.fs_serial.specs.Exchange.{OneExchange, due, is_recall}
use Rattle.fs_serial.specs.Leading.{IsEnded, IsLeading, LedHolds}
use Rattle.fs_serial.specs.Numbers.{is_session, items_by}
use Rattle.fs_serial.specs.Owed.{ends_in, owed_at, owed_to, question_of, taken_at, taken_leads}
use Rattle.fs_serial.proofs.ClientMessages.Sending.{IsRecallTo, recall_all, recall_each, recall_with}
use Rattle.fs_serial.proofs.Lists.EachAt.{each_same}
use Rattle.fs_serial.proofs.Lists.SetAt.{In_new}
use Rattle.fs_serial.proofs.Lists.Traffic.{messages, messages_append}
use Rattle.fs_serial.proofs.Moves.PathSteps.{ArePathSends, each_message, path_stepped, refusal_here, refused, up_sent}
use Rattle.fs_serial.proofs.Transactions.LeavesLed.{ask_leaves, move_leaves, ship_leaves, turn_leaves}
use Rattle.fs_serial.proofs.Transactions.Recalled.{recalls_on_paths}
use Rattle.fs_serial.proofs.Transactions.RoundsLocks.{round_by}
use Rattle.fs_serial.proofs.Transactions.RoundsStages.{rounds_server}
use Rattle.fs_serial.proofs.Transactions.Tables.{In_all, ending_there}
use Rattle.fs_serial.proofs.Transactions.ToldOrOwed.{left_same}
use Rattle.fs_serial.proofs.Transactions.SeenMeanwhile.{owed_same}
use Rattle.fs_world.specs.Coming.{item_with, items_with}
use Rattle.fs_world.specs.Order.{ReplyGiven}
use Rattle.fs_world.proofs.Coming.{answers_to, more_come, none_comes, one_comes, quiet_comes, sent_line, taken_line, with_more}
use Rattle.fs_world.proofs.LedEach.{each_goes, each_vote}
use Rattle.fs_world.proofs.RepliesGiven.{IsTelling}
use Rattle.fs_world.proofs.SerialLaws.{AsksOne}

-- ## Answers that bring nothing

module _ (k : ℕ) (x : Session) (led : Option Led) where
  abbrev Brings : List (Peer × Msg) → List Item → Type 0
  Brings send items = items_with x led (messages (answers_to k x send)) ≡ items

-- recalls bring nothing
recalls_bring : (k : ℕ) (x : Session) (led : Option Led) (send : List (Peer × Msg)) → ((m : Peer × Msg) → In m send → IsRecallTo m)
    → Brings k x led send []
recalls_bring k x None send are = none_comes x (messages (answers_to k x send))
recalls_bring k x (Some d) [] are = refl
recalls_bring k x (Some d) (m ∷ rest) are =
    let q = are m (inl refl) in
    let more = recalls_bring k x (Some d) rest (λ n i. are n (inr i)) in
    subst (λ (p : Peer × Msg). Brings k x (Some d) (p ∷ rest) []) (sym q.message)
    (elim (q.to.0 == x.0) as
    (λ b. items_with x (Some d) (messages (cond b ((k, answer.Recall q.number) ∷ []) [] ++ answers_to k x rest)) ≡ []) [
      | true ↦ more
      | false ↦ more
    ])

-- so do messages of path leases
none_answered : (k : ℕ) (x : Session) (ms : List (Peer × Msg)) → ArePathSends ms → answers_to k x ms ≡ []
none_answered k x [] sent = refl
none_answered k x ((OfServer to, msg.Peer m) ∷ rest) sent = none_answered k x rest sent.1
none_answered k x ((OfServer to, msg.Answer a) ∷ rest) sent = absurd sent.0
none_answered k x ((OfServer to, msg.Client a) ∷ rest) sent = absurd sent.0
none_answered k x ((OfSession to, m) ∷ rest) sent = absurd sent.0

paths_bring : (k : ℕ) (x : Session) (led : Option Led) (ms : List (Peer × Msg)) → ArePathSends ms → Brings k x led ms []
paths_bring k x led ms sent = ap (λ (answers : List (ℕ × Answer)). items_with x led (messages answers)) (none_answered k x ms sent)

-- so those that ask back what is in the way of a part
back_unanswered : (k : ℕ) (x : Session) (v : AVote) (s : Server) (p : Part) → answers_to k x (paths_back v s p) ≡ []
back_unanswered k x v s p = none_answered k x (paths_back v s p) (recalls_on_paths v s p)

-- an answer that brings nothing, and what brings nothing behind it
then_brings : (k : ℕ) (x : Session) (led : Option Led) (by : Session) (a : Answer) (rest : List (Peer × Msg))
    → ((d : Led) → item_with x (Some d) a ≡ []) → Brings k x led rest [] → Brings k x led (to_session by a ∷ rest) []
then_brings k x None by a rest e more = none_comes x (messages (answers_to k x (to_session by a ∷ rest)))
then_brings k x (Some d) by a rest e more =
    elim (by.0 == x.0) as (λ b. items_with x (Some d) (messages (cond b ((k, a) ∷ []) [] ++ answers_to k x rest)) ≡ []) [
      | true ↦ ap (λ is. is ++ items_with x (Some d) (messages (answers_to k x rest))) (e d) ∙ more
      | false ↦ more
    ]

-- with recalls behind it
one_brings : (k : ℕ) (x : Session) (led : Option Led) (by : Session) (a : Answer) (rest : List (Peer × Msg))
    → ((d : Led) → item_with x (Some d) a ≡ []) → ((m : Peer × Msg) → In m rest → IsRecallTo m) → Brings k x led (to_session by a ∷ rest) []
one_brings k x led by a rest e are = then_brings k x led by a rest e (recalls_bring k x led rest are)

-- ## What is sent to sessions

answers_more : (k : ℕ) (x : Session) (a b : List (Peer × Msg)) → answers_to k x (a ++ b) ≡ answers_to k x a ++ answers_to k x b
answers_more k x [] b = refl
answers_more k x ((OfSession to, msg.Answer y) ∷ a) b = ap (λ ms. cond (to.0 == x.0) ((k, y) ∷ []) [] ++ ms) (answers_more k x a b)
    ∙ sym (append_assoc (cond (to.0 == x.0) ((k, y) ∷ []) []) (answers_to k x a) (answers_to k x b))
answers_more k x ((OfSession to, msg.Client m) ∷ a) b = answers_more k x a b
answers_more k x ((OfSession to, msg.Peer m) ∷ a) b = answers_more k x a b
answers_more k x ((OfServer to, m) ∷ a) b = answers_more k x a b

-- words to other servers are no answers
words_quiet : (k : ℕ) (x : Session) (txn : TxnNo) (d : Decision) (out : List (ℕ × ℕ)) (more : List (Peer × Msg))
    → answers_to k x (tells txn d out ++ more) ≡ answers_to k x more
words_quiet k x txn d [] more = refl
words_quiet k x txn d (p ∷ ps) more = words_quiet k x txn d ps more

rounds_quiet : (k : ℕ) (x : Session) (txn : TxnNo) (number : ℕ) (by : Session) (ps : List Part) (r : Round) → answers_to k x r.send ≡ []
    → answers_to k x (rounds txn number by ps r).send ≡ []
rounds_quiet k x txn number by [] r h = h
rounds_quiet k x txn number by (p ∷ ps) r h = rounds_quiet k x txn (number + 1) by ps (part_round txn number by p r)
    (elim (is_mine r.server p.file) as (λ b. answers_to k x (round_by txn number by p r b).send ≡ []) [
      | true ↦ answers_more k x r.send (paths_back (vote_here r.server by p) r.server p)
          ∙ ap (λ ms. answers_to k x r.send ++ ms) (back_unanswered k x (vote_here r.server by p) r.server p)
          ∙ append-nil (answers_to k x r.send) ∙ h
      | false ↦ answers_more k x r.send (to_server (server_of r.server.map p.file) (ask_for txn number by p) ∷ [])
          ∙ append-nil (answers_to k x r.send) ∙ h
    ])

-- ## What is admitted

-- the session's items among those that are admitted, where the event may decide what is led
abbrev pub brought : ServerEvent → Session → List Item → List Item
brought (FromClient by (Lead m)) x items = items_by x items
brought (FromPeer from (Vote m)) x items = items_by x items
brought e x items = []

item_at : (p : Peer) (i : Item) (replied : Session → List Item) (x : Session)
    → with_item p i replied x ≡ replied x ++ cond (is_session x p) (i ∷ []) []
item_at (OfServer k) i replied x = sym (append-nil (replied x))
item_at (OfSession by) i replied x = at (by.0 == x.0) refl
  where
    at : (b : Bool) → (by.0 == x.0) ≡ b → cond b (replied by ++ i ∷ []) (replied x) ≡ replied x ++ cond b (i ∷ []) []
    at true e = ap (λ (y : Session). replied y ++ i ∷ []) (one_session by x e)
    at false e = sym (append-nil (replied x))

items_at : (items : List Item) (replied : Session → List Item) (x : Session) → with_items items replied x ≡ replied x ++ items_by x items
items_at [] replied x = sym (append-nil (replied x))
items_at (i ∷ is) replied x = items_at is (with_item i.by i replied) x ∙ ap (λ js. js ++ items_by x is) (item_at i.by i replied x)
    ∙ at (is_session x i.by)
  where
    at : (b : Bool) → (replied x ++ cond b (i ∷ []) []) ++ items_by x is ≡ replied x ++ cond b (i ∷ items_by x is) (items_by x is)
    at true = append_assoc (replied x) (i ∷ []) (items_by x is)
    at false = ap (λ js. js ++ items_by x is) (append-nil (replied x))

pub replies_with : (e : ServerEvent) (x : Session) (items : List Item) (replied : Session → List Item)
    → replies_after e items replied x ≡ replied x ++ brought e x items
replies_with (FromClient by (Lead m)) x items replied = items_at items replied x
replies_with (FromClient by (Ask asked dir)) x items replied = sym (append-nil (replied x))
replies_with (FromClient by (Renew pairs)) x items replied = sym (append-nil (replied x))
replies_with (FromClient by (Release pairs)) x items replied = sym (append-nil (replied x))
replies_with (FromClient by (Ship entries)) x items replied = sym (append-nil (replied x))
replies_with (FromPeer from (Vote m)) x items replied = items_at items replied x
replies_with (FromPeer from m) x items replied = sym (append-nil (replied x))
replies_with Turn x items replied = sym (append-nil (replied x))
replies_with (TheRecall field) x items replied = sym (append-nil (replied x))
replies_with (Move prefix to) x items replied = sym (append-nil (replied x))

-- nothing is brought where nothing is admitted
none_brought : (e : ServerEvent) (x : Session) → brought e x [] ≡ []
none_brought (FromClient by (Lead m)) x = refl
none_brought (FromClient by (Ask asked dir)) x = refl
none_brought (FromClient by (Renew pairs)) x = refl
none_brought (FromClient by (Release pairs)) x = refl
none_brought (FromClient by (Ship entries)) x = refl
none_brought (FromPeer from (Vote m)) x = refl
none_brought (FromPeer from m) x = refl
none_brought Turn x = refl
none_brought (TheRecall field) x = refl
none_brought (Move prefix to) x = refl

-- ## One question at a time

-- while a question stands no answer is due
silent : (c : Client) (o : Option Exchange) (up : List ClientMsg) (down : List Answer) → OneExchange c o up down → (m : ClientMsg) → In m up
    → due down ≡ []
silent c None up down h m i = h.1
silent c (Some q) up down (inl a) m i = a.silent
silent c (Some q) up down (inr a) m i = absurd (subst (In m) a.asked i)

-- an answer that is due is the only one
alone : (c : Client) (o : Option Exchange) (up : List ClientMsg) (down : List Answer) → OneExchange c o up down → (a : Answer)
    → In a (due down) → due down ≡ a ∷ []
alone c None up down h a i = absurd (subst (In a) h.1 i)
alone c (Some q) up down (inl b) a i = absurd (subst (In a) b.silent i)
alone c (Some q) up down (inr b) a i = elim (subst (In a) b.told i) as (λ _. due down ≡ a ∷ []) [
  | inl e ↦ b.told ∙ ap (λ z. z ∷ []) (sym e)
  | inr j ↦ absurd j
]

module _ (c : Cluster) (x : Session) (h : AsksOne c x) where
  none_comes_yet : (m : ClientMsg) → In m (ends_in c x).up → items_with x (c.lines x).client.led (ends_in c x).down ≡ []
  none_comes_yet m i =
      let l : Client = (c.lines x).client in
      quiet_comes x l.led (ends_in c x).down (silent l l.exchange (ends_in c x).up (ends_in c x).down h.one m i)

  end_comes : (d : Led) (e : LedEnd) → (c.lines x).client.led ≡ Some d → In (answer.Led e) (ends_in c x).down
      → items_with x (c.lines x).client.led (ends_in c x).down ≡ item_with x (Some d) (answer.Led e)
  end_comes d e is i =
      let l : Client = (c.lines x).client in
      let a : Answer = answer.Led e in
      ap (λ o. items_with x o (ends_in c x).down) is
      ∙ one_comes x d (ends_in c x).down a
      (alone l l.exchange (ends_in c x).up (ends_in c x).down h.one a (kept_in (λ z. not (is_recall z)) a (ends_in c x).down i refl))

-- ## How an operation ends

-- an end that a vote calls for brings nothing
same_end : (x : Session) (d : Led) (a b : LedEnd) → item_with x (Some d) (answer.Led a) ≡ [] → Some a ≡ Some b
    → item_with x (Some d) (answer.Led b) ≡ []
same_end x d a b none e = let is : a ≡ b = cc in subst (λ (z : LedEnd). item_with x (Some d) (answer.Led z) ≡ []) is none

no_reply : (x : Session) (d : Led) (votes : Votes) (e : LedEnd) → first_end votes ≡ Some e → item_with x (Some d) (answer.Led e) ≡ []
no_reply x d [] e f = absurd (cc f)
no_reply x d (None ∷ vs) e f = same_end x d (end.Again why.Changed) e refl f
no_reply x d (Some vote.Yes ∷ vs) e f = no_reply x d vs e f
no_reply x d (Some (vote.Ended lease until now) ∷ vs) e f = same_end x d (end.Ended lease until now) e refl f
no_reply x d (Some (vote.PathsOut lease) ∷ vs) e f = same_end x d (end.Again (why.PathsOut lease)) e refl f
no_reply x d (Some (vote.Moved prefix to) ∷ vs) e f = same_end x d (end.Again (why.Moved prefix to)) e refl f

-- the session waits for the end of what this leads
record IsAwaited (c : Cluster) (x : Session) (l : Leader) : Type 0 where
  led : Led
  is : (c.lines x).client.led ≡ Some led
  number : l.n ≡ led.entry.n
  op : l.op ≡ led.entry.op
  asked : ClientMsg
  stands : In asked (ends_in c x).up

module _ (x : Session) (d : Led) (l : Leader) (its : (l.session.0 == x.0) ≡ true) (number : l.n ≡ d.entry.n) (op : l.op ≡ d.entry.op) where
  abbrev EndsAs : Decision → Type 0
  EndsAs q = item_with x (Some d) (answer.Led (end_of_decision q)) ≡ items_by x (admitted_of q l)

  commit_ends : (r : Reply)
      → item_with x (Some d) (answer.Led (end.Done r)) ≡ items_by x
      ((let i : Item = record { by = OfSession l.session; n = l.n; op = l.op; reply = r } in i) ∷ [])
  commit_ends r =
      ap (λ (n : ℕ). let i : Item = record { by = OfSession x; n = n; op = d.entry.op; reply = r } in i ∷ []) (sym number)
      ∙ ap (λ (o : Op). let i : Item = record { by = OfSession x; n = l.n; op = o; reply = r } in i ∷ []) (sym op)
      ∙ ap (λ (y : Session). let i : Item = record { by = OfSession y; n = l.n; op = l.op; reply = r } in i ∷ [])
      (sym (one_session l.session x its))
      ∙ sym (ap (λ b. cond b (let i : Item = record { by = OfSession l.session; n = l.n; op = l.op; reply = r } in i ∷ []) []) its)

  files_end : (mode : Mode2) (on : Bool) → EndsAs (by_files l mode on)
  files_end Check true = commit_ends reply.Cycle
  files_end Check false = refl
  files_end Plain true = refl
  files_end Plain false = commit_ends reply.Renamed
  files_end Freeze true = refl
  files_end Freeze false = commit_ends reply.Renamed

  path_ends : (p : Option PathAnswer) → EndsAs (by_path l p)
  path_ends None = refl
  path_ends (Some (path.Path files)) = files_end l.mode (has_file files l.file)
  path_ends (Some (path.Wanted file parent)) = refl
  path_ends (Some (path.Frozen file txn)) = refl

  agreed_ends : (b : Bool) (p : Option PathAnswer) → EndsAs (cond b (by_path l p) (commit l (reply_of l.op)))
  agreed_ends true p = path_ends p
  agreed_ends false p = commit_ends (reply_of l.op)

  -- the session is told of what is admitted
  ends_as : (p : Option PathAnswer) → EndsAs (decision l p)
  ends_as p = at (first_end l.votes) refl
    where
      at : (o : Option LedEnd) → first_end l.votes ≡ o → EndsAs (unless_ended o (agreed l p))
      at (Some e) f = no_reply x d l.votes e f
      at None f = agreed_ends (needs_path l.mode l.op) p

-- others are told of nothing
others_none : (x : Session) (l : Leader) (d : Decision) → (l.session.0 == x.0) ≡ false → items_by x (admitted_of d l) ≡ []
others_none x l (Commit r effects) off =
    ap (λ b. cond b (let i : Item = record { by = OfSession l.session; n = l.n; op = l.op; reply = r } in i ∷ []) []) off
others_none x l (Abort e) off = refl

-- ## A step of the server

module _ (k : ℕ) (c : Cluster) (s : Server) (at : slice_get c.servers k ≡ Some s) (x : Session) where
  abbrev led : Option Led
  led = (c.lines x).client.led

  abbrev then : ServerEvent → Stepped → Cluster
  then e y = after_step k e y c

  abbrev heard : List Answer
  heard = messages (c.lines x).down

  abbrev sent : Stepped → List Answer
  sent y = messages (answers_to k x y.out.send)

  line : (e : ServerEvent) (y : Stepped)
      → (up : List (ℕ × ClientMsg)) × ((then e y).lines x ≡ with_more (answers_to k x y.out.send) (record (c.lines x) { up = up }))
  line e y =
      let t = taken_line k e c.lines x in
      (t.0, sent_line k y.out.send (without_question k e c.lines) x ∙ ap (with_more (answers_to k x y.out.send)) t.1)

  led_still : (e : ServerEvent) (y : Stepped) → ((then e y).lines x).client.led ≡ led
  led_still e y = ap (λ (l : Lines). l.client.led) (line e y).1

  down_is : (e : ServerEvent) (y : Stepped) → (ends_in (then e y) x).down ≡ owed_to x (then e y).servers ++ (heard ++ sent y)
  down_is e y =
      ap (λ (l : Lines). owed_to x (then e y).servers ++ messages l.down) (line e y).1
      ∙ ap (λ ms. owed_to x (then e y).servers ++ ms) (messages_append (c.lines x).down (answers_to k x y.out.send))

  -- what comes to the session is what came before, and what the event brings it
  abbrev IsBrought : ServerEvent → Stepped → Type 0
  IsBrought e y = items_with x led (ends_in (then e y) x).down ≡ items_with x led (ends_in c x).down ++ brought e x y.out.admitted

  -- the same is owed
  still : (e : ServerEvent) (y : Stepped) → owed_to x (then e y).servers ≡ owed_to x c.servers
      → Brings k x led y.out.send (brought e x y.out.admitted) → IsBrought e y
  still e y owed more =
      ap (items_with x led) (down_is e y ∙ ap (λ os. os ++ (heard ++ sent y)) owed
      ∙ sym (append_assoc (owed_to x c.servers) heard (sent y)))
      ∙ more_come x led (owed_to x c.servers ++ heard) (sent y)
      ∙ ap (λ is. items_with x led (owed_to x c.servers ++ heard) ++ is) more

  quiet : (e : ServerEvent) (y : Stepped) → y.server.ending ≡ s.ending → Brings k x led y.out.send [] → y.out.admitted ≡ [] → IsBrought e y
  quiet e y ending none nothing = still e y (owed_same c.servers k s y.server at ending x)
      (none ∙ sym (none_brought e x) ∙ ap (brought e x) (sym nothing))

  -- one that is no question to lead and no vote brings nothing
  plain : (e : ServerEvent) (y : Stepped) → ((items : List Item) → brought e x items ≡ []) → y.server.ending ≡ s.ending
      → Brings k x led y.out.send [] → IsBrought e y
  plain e y never ending none = still e y (owed_same c.servers k s y.server at ending x) (none ∙ sym (never y.out.admitted))

  -- ## An end is told or owed

  module _ (e : ServerEvent) (y : Stepped) (z : Ending) (its : y.server.ending ≡ with_ending z s.ending)
      (tells_end : answers_to k x y.out.send ≡ answers_to k x (ends_now z.awaits z.session z.end)) where
    abbrev its_end : Answer
    its_end = answer.Led z.end

    abbrev own : Ending → Bool
    own w = w.session.0 == x.0

    -- to no other session
    to_others : (z.session.0 == x.0) ≡ false → ((w : Ending) → In w s.ending → same_txn w.txn z.txn ≡ true → w.session ≡ z.session)
        → brought e x y.out.admitted ≡ [] → IsBrought e y
    to_others off one nothing = still e y
        (each_same (owed_at x) c.servers k s y.server at (ap (map (λ (w : Ending). answer.Led w.end)) owed_still))
        (ap (λ ms. items_with x led (messages ms)) (tells_end ∙ not_told z.awaits) ∙ sym nothing)
      where
        stays : (w : Ending) → In w s.ending → own w ≡ true → (b : Bool) → same_txn w.txn z.txn ≡ b → not b ≡ true
        stays w i mine true f =
            let wrong : false ≡ true = sym off ∙ ap (λ (u : Session). u.0 == x.0) (sym (one w i f)) ∙ mine in absurd (cc wrong)
        stays w i mine false f = refl

        none : (b : Bool) → filter own (cond b (z ∷ []) []) ≡ []
        none true = ap (λ b. cond b (z ∷ []) []) off
        none false = refl

        owed_still : filter own y.server.ending ≡ filter own s.ending
        owed_still =
            ap (filter own) its
            ∙ filter-append own (without_ending z.txn s.ending) (cond (is_some (slice_get z.awaits 0)) (z ∷ []) [])
            ∙ ap (λ es. filter own (without_ending z.txn s.ending) ++ es) (none (is_some (slice_get z.awaits 0)))
            ∙ append-nil (filter own (without_ending z.txn s.ending))
            ∙ left_same own (λ (w : Ending). not (same_txn w.txn z.txn)) s.ending (λ w i mine. stays w i mine (same_txn w.txn z.txn) refl)

        not_told : (out : List (ℕ × ℕ)) → answers_to k x (ends_now out z.session z.end) ≡ []
        not_told [] = ap (λ b. cond b ((k, its_end) ∷ []) [] ++ []) off
        not_told (p ∷ ps) = refl

    -- it comes to its own
    to_own : (z.session.0 == x.0) ≡ true → In its_end (ends_in (then e y) x).down
    to_own mine = subst (In its_end) (sym (down_is e y)) (at_either z.awaits refl)
      where
        at_either : (out : List (ℕ × ℕ)) → z.awaits ≡ out → In its_end (owed_to x (then e y).servers ++ (heard ++ sent y))
        at_either [] over =
            let is : sent y ≡ its_end ∷ [] =
            ap messages (tells_end ∙ ap (λ out. answers_to k x (ends_now out z.session z.end)) over
            ∙ ap (λ b. cond b ((k, its_end) ∷ []) [] ++ []) mine) in
            In-behind its_end (owed_to x (then e y).servers) (heard ++ sent y)
            (In-behind its_end heard (sent y) (subst (In its_end) (sym is) (inl refl)))
        at_either (p ∷ ps) more =
            let there : In z y.server.ending =
            subst (In z) (sym its) (ending_there z s.ending (ap (λ out. is_some (slice_get out 0)) more)) in
            let owed : In its_end (owed_at x y.server) =
            In-mapped (λ (w : Ending). answer.Led w.end) z (filter own y.server.ending) (kept_in own z y.server.ending there mine) in
            In-front its_end (owed_to x (then e y).servers) (heard ++ sent y)
            (In_all (owed_at x) its_end y.server (then e y).servers (In_new c.servers k s y.server at) owed)

    -- then it is what comes
    comes_then : (z.session.0 == x.0) ≡ true → AsksOne (then e y) x → (d : Led) → led ≡ Some d
        → items_with x led (ends_in (then e y) x).down ≡ item_with x (Some d) its_end
    comes_then mine after d is =
        ap (λ o. items_with x o (ends_in (then e y) x).down) (sym (led_still e y))
        ∙ end_comes (then e y) x after d z.end (led_still e y ∙ is) (to_own mine)

  -- ## A transaction goes on

  -- where the session asks one question then
  abbrev Passes : ServerEvent → Stepped → Type 0
  Passes e y = AsksOne (then e y) x → IsBrought e y

  module _ (before : AsksOne c x) (e : ServerEvent) (n : ServerNote) (l : Leading) (by : Option PathAnswer) (more : List (Peer × Msg))
      (t : Server) (ending : t.ending ≡ s.ending) (words : answers_to k x more ≡ [])
      (admits : (items : List Item) → brought e x items ≡ items_by x items) (new : ending_of l.leader.txn s.ending ≡ None)
      (awaited : (l.leader.session.0 == x.0) ≡ true → IsAwaited c x l.leader) where
    abbrev d : Decision
    d = decision l.leader by

    abbrev out : List (ℕ × ℕ)
    out = elsewhere t.me l

    abbrev z : Ending
    z = record { txn = l.leader.txn; session = l.leader.session; end = end_of_decision d; awaits = out }

    its : (concludes l by more t).server.ending ≡ with_ending z s.ending
    its = ap (with_ending z) ending

    told_so : answers_to k x (concludes l by more t).out.send ≡ answers_to k x (ends_now out z.session z.end)
    told_so =
        answers_more k x more (tells l.leader.txn d out ++ ends_now out z.session z.end)
        ∙ ap (λ ms. ms ++ answers_to k x (tells l.leader.txn d out ++ ends_now out z.session z.end)) words
        ∙ words_quiet k x l.leader.txn d out (ends_now out z.session z.end)

    one : (w : Ending) → In w s.ending → same_txn w.txn l.leader.txn ≡ true → w.session ≡ l.leader.session
    one w i f =
        let wrong : false ≡ true = sym (none_pass (λ (u : Ending). same_txn u.txn l.leader.txn) s.ending new w i) ∙ f in absurd (cc wrong)

    decides : Passes e (concludes l by more t)
    decides after = by_session (l.leader.session.0 == x.0) refl
      where
        by_session : (b : Bool) → (l.leader.session.0 == x.0) ≡ b → IsBrought e (concludes l by more t)
        by_session false off = to_others e (concludes l by more t) z its told_so off one
            (admits (admitted_of d l.leader) ∙ others_none x l.leader d off)
        by_session true mine =
            let a = awaited mine in
            comes_then e (concludes l by more t) z its told_so mine after a.led a.is
            ∙ ends_as x a.led l.leader mine a.number a.op by
            ∙ sym (admits (admitted_of d l.leader))
            ∙ ap (λ is. is ++ brought e x (admitted_of d l.leader)) (sym (none_comes_yet c x before a.asked a.stands))

    goes : Passes e (goes_on n l by more t)
    goes = each_goes (Passes e) n l by more t decides
        (λ after. quiet e (waits n l more t) ending (ap (λ ms. items_with x led (messages ms)) words) refl)

  module _ (held : LedHolds c) (before : AsksOne c x) where
    here : In s c.servers
    here = In-got c.servers k s at

    -- a session waits for what the server leads
    leads_awaited : (l : Leading) → In l s.leading → (l.leader.session.0 == x.0) ≡ true → IsAwaited c x l.leader
    leads_awaited l i mine = subst (λ (y : Session). IsAwaited c y l.leader) (one_session l.leader.session x mine) own
      where
        q : IsLeading c.lines s held.parts l
        q = held.leading s here l i

        by : Session
        by = l.leader.session

        asks : ClientMsg
        asks = Lead (lead_of q.led)

        taken : In asks (taken_at by (Some q.led) s)
        taken = In_all (λ (z : Leading). question_of (Some q.led)) asks l (filter (λ (z : Leading). z.leader.session.0 == by.0) s.leading)
            (kept_in (λ (z : Leading). z.leader.session.0 == by.0) l s.leading i (itself by.0)) (inl refl)

        own : IsAwaited c by l.leader
        own = record {
          led = q.led;
          is = q.client.led;
          number = q.leader.number;
          op = q.leader.op;
          asked = asks;
          stands = In-behind asks (messages (c.lines by).up) (taken_leads by (c.lines by).client.led c.servers)
              (subst (λ o. In asks (taken_leads by o c.servers)) (sym q.client.led)
              (In_all (taken_at by (Some q.led)) asks s c.servers here taken));
        }

    -- ## What a session asks to lead

    module _ (now : ℕ) (by : Session) (m : ToLead) (there : IsThere k (FromClient by (Lead m)) c) where
      abbrev u : Server
      u = begun now s

      abbrev asks_it : ServerEvent
      asks_it = FromClient by (Lead m)

      asked_awaited : (mode : Mode2) (votes : Votes) → (by.0 == x.0) ≡ true → IsAwaited c x (leader_with mode (txn_of u) by m votes)
      asked_awaited mode votes mine =
          let up : In (Lead m) (ends_in c by).up =
          In-front (Lead m) (messages (c.lines by).up) (taken_leads by (c.lines by).client.led c.servers)
          (In-mapped (λ (n : ℕ × ClientMsg). n.1) (k, Lead m) (c.lines by).up (found (is_with k) (c.lines by).up (k, Lead m) there).0) in
          let its : In (Lead m) (ends_in c x).up = subst (λ (y : Session). In (Lead m) (ends_in c y).up) (one_session by x mine) up in
          let q = before.leads m its in
          record {
            led = q.led;
            is = q.is;
            number = ap (λ (z : ToLead). z.n) q.told;
            op = ap (λ (z : ToLead). z.op) q.told;
            asked = Lead m;
            stands = its;
          }

      new_txn : ending_of (txn_of u) s.ending ≡ None
      new_txn = none (ending_of (txn_of u) s.ending) refl
        where
          none : (o : Option Ending) → ending_of (txn_of u) s.ending ≡ o → o ≡ None
          none None e = refl
          none (Some z) e =
              let f = found (λ (w : Ending). same_txn w.txn (txn_of u)) s.ending z e in
              let count : z.txn.count ≡ s.txns + 1 = ap (λ (n : TxnNo). n.count) (txn_is z.txn (txn_of u) f.1) in
              let few : z.txn.count ≤ s.txns = (held.ending s here z f.0).begun in
              absurd (omega (arith, count, few))

      lead_passes : (y : Stepped) → LeadEnds by m u y → Passes asks_it y
      lead_passes y (unled l) after = quiet asks_it y refl refl refl
      lead_passes y (put_off w l r) after = quiet asks_it y refl (one_brings k x led by _ [] (λ d. refl) (λ n i. absurd i)) refl
      lead_passes y (wanted top dir l o) after = quiet asks_it y refl
          (then_brings k x led by (answer.Led (end.Again (why.Wanted top))) (asks_up top dir u) (λ d. refl)
          (paths_bring k x led (asks_up top dir u) (up_sent top dir u))) refl
      lead_passes y (path_kept file txn l o) after =
          quiet asks_it y refl (one_brings k x led by _ [] (λ d. refl) (λ n i. absurd i)) refl
      lead_passes y (begins_it mode l b) after =
          let g : Round = round_of mode by m u in
          goes before asks_it (note.Prepares (txn_of u))
          (record { leader = leader_with mode (txn_of u) by m g.votes; at = g.at }) (path_for mode m.op u) g.send g.server
          (ap (λ (z : Server). z.ending) (rounds_server (txn_of u) 0 by (parts_in mode m) (first_round u)))
          (rounds_quiet k x (txn_of u) 0 by (parts_in mode m) (first_round u) refl)
          (λ items. refl) new_txn (asked_awaited mode g.votes) after

    -- ## A vote

    module _ (now from : ℕ) (m : Voted) where
      abbrev v : Server
      v = begun now s

      abbrev votes_it : ServerEvent
      votes_it = FromPeer from (Vote m)

      -- the transaction that the vote is of
      among : (l : Leading) → leading_of m.txn s.leading ≡ Some l → In l s.leading
      among l f = (found (λ (z : Leading). same_txn z.leader.txn m.txn) s.leading l f).0

      counted : (l : Leading) (votes : Votes) (places : List ℕ) (by : Option PathAnswer) (more : List (Peer × Msg)) (t : Server)
          → In l s.leading → t.ending ≡ s.ending → answers_to k x more ≡ []
          → Passes votes_it
          (goes_on (note.Waits l.leader.txn) (record { leader = record l.leader { votes = votes }; at = places }) by more t)
      counted l votes places by more t i ending words =
          goes before votes_it (note.Waits l.leader.txn) (record { leader = record l.leader { votes = votes }; at = places }) by more t
          ending words (λ items. refl) (held.leading s here l i).only (λ mine. let a = leads_awaited l i mine in record {
            led = a.led;
            is = a.is;
            number = a.number;
            op = a.op;
            asked = a.asked;
            stands = a.stands;
          })

      vote_passes : Passes votes_it (vote_step m v)
      vote_passes = each_vote (Passes votes_it) m v (λ after. quiet votes_it (strange v) refl refl refl)
          (λ l p to f after. quiet votes_it (seeks m.number to p l v) refl refl refl)
          (λ l w f.
          counted l (votes_after l.leader.votes m.number w) l.at (path_for l.leader.mode l.leader.op v) [] v (among l f) refl refl)
          (λ l p f. let w : AVote = vote_here v l.leader.session p in
          counted l (votes_after l.leader.votes m.number w) (slice_set l.at m.number v.me)
          (path_for l.leader.mode l.leader.op v) (paths_back w v p) (after_own_vote l.leader.txn p w v) (among l f) refl
          (back_unanswered k x w v p))

    -- ## All is done

    module _ (now from : ℕ) (m : IsDone) where
      abbrev w : Server
      w = begun now s

      abbrev done_it : ServerEvent
      done_it = FromPeer from (Done m)

      no_done : Passes done_it (strange w)
      no_done after = quiet done_it (strange w) refl refl refl

      module _ (z : Ending) (i : In z s.ending) where
        q : IsEnded c.lines s held.parts z
        q = held.ending s here z i

        abbrev left : Ending
        left = without_done m.number z

        -- its number is that of one transaction
        one_end : (a : Ending) → In a s.ending → same_txn a.txn z.txn ≡ true → a.session ≡ z.session
        one_end a j f =
            let both : Some a ≡ Some z =
            sym (held.ending s here a j).one ∙ ap (λ (n : TxnNo). ending_of n s.ending) (txn_is a.txn z.txn f) ∙ q.one in
            let same : a ≡ z = cc in
            ap (λ (y : Ending). y.session) same

        owed_before : (z.session.0 == x.0) ≡ true → In (answer.Led z.end) (ends_in c x).down
        owed_before mine =
            let a : Answer = answer.Led z.end in
            let owed : In a (owed_at x s) =
            In-mapped (λ (y : Ending). answer.Led y.end) z (filter (λ (y : Ending). y.session.0 == x.0) s.ending)
            (kept_in (λ (y : Ending). y.session.0 == x.0) z s.ending i mine) in
            In-front a (owed_to x c.servers) heard (In_all (owed_at x) a s c.servers here owed)

        ends_pass : (y : Stepped) → y.server.ending ≡ with_ending left s.ending
            → answers_to k x y.out.send ≡ answers_to k x (ends_now left.awaits left.session left.end) → Passes done_it y
        ends_pass y its told after = by_session (z.session.0 == x.0) refl
          where
            by_session : (b : Bool) → (z.session.0 == x.0) ≡ b → IsBrought done_it y
            by_session false off = to_others done_it y left its told off one_end refl
            by_session true mine =
                let is : led ≡ Some q.led =
                subst (λ (n : Session). (c.lines n).client.led ≡ Some q.led) (one_session z.session x mine) q.client.led in
                comes_then done_it y left its told mine after q.led is
                ∙ sym (end_comes c x before q.led z.end is (owed_before mine))
                ∙ sym (append-nil (items_with x led (ends_in c x).down))

        left_passes : (ps : List (ℕ × ℕ)) → left.awaits ≡ ps → Passes done_it (done_with left ps w)
        left_passes [] e = ends_pass (done_with left [] w) refl (sym (ap (λ out. answers_to k x (ends_now out left.session left.end)) e))
        left_passes (p ∷ ps) e = ends_pass (done_with left (p ∷ ps) w) refl
            (sym (ap (λ out. answers_to k x (ends_now out left.session left.end)) e))

        done_passes_at : (b : Bool) → Passes done_it (cond b (done_with left left.awaits w) (strange w))
        done_passes_at true = left_passes left.awaits refl
        done_passes_at false = no_done

      done_passes : (o : Option Ending) → ending_of m.txn s.ending ≡ o → Passes done_it (done_of o m w)
      done_passes None f = no_done
      done_passes (Some z) f = done_passes_at z (found (λ (y : Ending). same_txn y.txn m.txn) s.ending z f).0
          (awaits_done m.number z.awaits)

    -- ## Every event

    module _ (now : ℕ) where
      abbrev b : Server
      b = begun now s

      vote_keeps : (v : AVote) (m : ToPrepare) → (after_vote v (ready_of m) b).ending ≡ s.ending
      vote_keeps vote.Yes m = refl
      vote_keeps (vote.Ended lease until t) m = refl
      vote_keeps (vote.PathsOut lease) m = refl
      vote_keeps (vote.Moved prefix to) m = refl

      peer_passes : (from : ℕ) (m : PeerMsg) → Passes (FromPeer from m) (peer_step from m b)
      peer_passes from (OfParcel p) after = elim (fits_here p b) as (λ a. IsBrought (FromPeer from (OfParcel p)) (parcel_at a p b)) [
        | true ↦ quiet (FromPeer from (OfParcel p)) (parcel_at true p b) refl refl refl
        | false ↦ quiet (FromPeer from (OfParcel p)) (parcel_at false p b) refl refl refl
      ]
      peer_passes from (Prepare m) after = elim (is_prepared m.txn m.number b.prepared) as
          (λ a. IsBrought (FromPeer from (Prepare m)) (cond a (strange b) (votes (vote_here b m.session m.part) from m b))) [
            | true ↦ quiet (FromPeer from (Prepare m)) (strange b) refl refl refl
            | false ↦ quiet (FromPeer from (Prepare m)) (votes (vote_here b m.session m.part) from m b)
                (vote_keeps (vote_here b m.session m.part) m)
                (ap (λ (answers : List (ℕ × Answer)). items_with x led (messages answers))
                (back_unanswered k x (vote_here b m.session m.part) b m.part)) refl
          ]
      peer_passes from (Vote m) after = vote_passes now from m after
      peer_passes from (Decide m) after = elim (is_prepared m.txn m.number b.prepared) as
          (λ a. IsBrought (FromPeer from (Decide m)) (cond a (applies from m b) (strange b))) [
            | true ↦ quiet (FromPeer from (Decide m)) (applies from m b) refl refl refl
            | false ↦ quiet (FromPeer from (Decide m)) (strange b) refl refl refl
          ]
      peer_passes from (Done m) after = done_passes now from m (ending_of m.txn s.ending) refl after
      peer_passes from m after = each_message (λ (y : Stepped). IsBrought (FromPeer from m) y) b
          (λ n ms paths asking given noted sent. quiet (FromPeer from m) (path_stepped n ms paths asking given b) refl
          (paths_bring k x led ms sent) refl) from m tt

      message_passes : (by : Session) (m : ClientMsg) → IsThere k (FromClient by m) c → Passes (FromClient by m) (message_step by m b)
      message_passes by (Ask items dir) there after =
          let a = asked_in by items dir b in
          quiet (FromClient by (Ask items dir)) (ask_step by items dir b) (ask_leaves k b c by items dir).ending
          (one_brings k x led by _ (recalls_at a.end a.server.rows) (λ d. refl) (recall_with a.end a.server.rows)) refl
      message_passes by (Renew pairs) there after = quiet (FromClient by (Renew pairs)) (message_step by (Renew pairs) b) refl
          (one_brings k x led by _ [] (λ d. refl) (λ n i. absurd i)) refl
      message_passes by (Release pairs) there after = quiet (FromClient by (Release pairs)) (message_step by (Release pairs) b) refl
          (one_brings k x led by _ [] (λ d. refl) (λ n i. absurd i)) refl
      message_passes by (Ship entries) there after = plain (FromClient by (Ship entries)) (ship_step by entries b) (λ items. refl)
          (ship_leaves k b c by entries).ending
          (elim (list_all (λ (e : Entry). tells_its_effects e.op) entries) as
          (λ a. Brings k x led (cond a (shipped by (ship_from by entries b [])) (strange b)).out.send []) [
            | true ↦ one_brings k x led by _ [] (λ d. refl) (λ n i. absurd i)
            | false ↦ refl
          ])
      message_passes by (Lead m) there after = lead_passes now by m there (lead_step by m b) (lead_ends by m b) after

      turn_brings : (xs : List (List ℕ × Session)) → Brings k x led (turn_over xs b).out.send []
      turn_brings [] = refl
      turn_brings (y ∷ ys) =
          let r = reap_from (y ∷ ys) b [] [] in
          recalls_bring k x led (recalls_for r.server.rows r.blockers) (recall_each r.server.rows r.blockers)

      move_brings : (o : Option MoveError) (prefix : List ℕ) (to : ℕ) → Brings k x led (move_at o prefix to b).out.send []
      move_brings None prefix to = refl
      move_brings (Some why) prefix to = refused (λ (y : Stepped). Brings k x led y.out.send []) b
          (λ n ms paths asking given noted sent. paths_bring k x led ms sent) why prefix to

      event_passes : (e : ServerEvent) → IsThere k e c → Passes e (step s now e)
      event_passes (FromClient by m) there after = message_passes by m there after
      event_passes (FromPeer from m) there after = peer_passes from m after
      event_passes Turn there after = plain Turn (turn_step b) (λ items. refl) (turn_leaves k b c).ending (turn_brings (lapsed_in b))
      event_passes (TheRecall field) there after = plain (TheRecall field) (event_step (TheRecall field) b) (λ items. refl) refl
          (recalls_bring k x led (recalls_of (recalled_on field b)) (recall_all (recalled_on field b)))
      event_passes (Move prefix to) there after = plain (Move prefix to) (move_step prefix to b) (λ items. refl)
          (move_leaves k b c prefix to).ending
          (move_brings (refusal_here prefix to b) prefix to)

      -- what it was told stays, and what it is told then comes
      pub telling_after : (e : ServerEvent) → IsThere k e c → AsksOne (then e (step s now e)) x
          → (items : List Item) (told : List ReplyGiven) (lead : Option Op) → IsTelling x (ends_in c x) items told lead
          → IsTelling x (ends_in (then e (step s now e)) x) (items ++ brought e x (step s now e).out.admitted) told lead
      telling_after e there after items told lead h =
          let y : Stepped = step s now e in
          let more : List Item = brought e x y.out.admitted in
          let f : List Item = h.told.front in
          record {
            told = record {
              front = f;
              split = ap (λ is. is ++ more) h.told.split ∙ append_assoc f (items_with x led (ends_in c x).down) more
                  ∙ ap (λ is. f ++ is) (sym (event_passes e there after)
                  ∙ ap (λ o. items_with x o (ends_in (then e y) x).down) (sym (led_still e y)));
              told = h.told.told;
            };
            asked = λ d i. h.asked d (sym (led_still e y) ∙ i);
          }
