-- Every event of every run says only what was caused.
use Rattle.std.proofs.Common.{◌≡◌, ℕ, ◌==◌, ◌/◌, ◌+◌, not, ◌&&◌, Bool, true, false, List, [], ◌∷◌, ◌++◌, cond, refl, sym, ap, ◌∙◌, subst}
use Rattle.std.proofs.Common.{inl, append-nil, append_assoc}
use Rattle.std.specs.Prelude.{Option, Some, None, is_some, option_map, slice_get}
use Rattle.std.specs.FinMap.{get, insert}
use Rattle.std.specs.List.{find, list_all}
use Rattle.fs_ident.specs.In.{In}
use Rattle.fs_ident.specs.declared.actor.LeaseNo.{LeaseNo}
use Rattle.fs_ident.specs.declared.actor.Peer.{Peer}
use Rattle.fs_ident.specs.declared.actor.Peer.TheVariants.{Server, Client}
use Rattle.fs_ident.specs.declared.actor.Session.{Session}
use Rattle.fs_ident.specs.declared.actor.TxnNo.{TxnNo}
use Rattle.fs_ident.proofs.Standing.{In-got}
use Rattle.fs_field.specs.declared.row.Row.{Row}
use Rattle.fs_field.specs.declared.path.PathAnswer.{PathAnswer}
use Rattle.fs_field.specs.declared.used.Part.{Part}
use Rattle.fs_field.specs.Table.{has_no}
use Rattle.fs_window.specs.Post.{Links, post_accepted, post_due}
use Rattle.fs_window.specs.Reading.{packet_at}
use Rattle.fs_window.specs.declared.heard.Heard.{Heard as HeardThere}
use Rattle.fs_window.specs.declared.packet.Packet.{Packet}
use Rattle.fs_window.specs.declared.sent.Sent.{Sent}
use Rattle.fs_map.specs.Map.{server_of}
use Rattle.fs_model.specs.Step.{is_empty}
use Rattle.fs_model.specs.declared.op.Op.{Op}
use Rattle.fs_msg.specs.declared.answer.Answer.{Answer}
use Rattle.fs_msg.specs.declared.client_msg.ClientMsg.{ClientMsg}
use Rattle.fs_msg.specs.declared.client_msg.ClientMsg.TheVariants.{Ask, Renew, Release, Ship, Lead}
use Rattle.fs_msg.specs.declared.end.End.{End}
use Rattle.fs_msg.specs.declared.end.End.TheVariants as end
use Rattle.fs_msg.specs.declared.entry.Entry.{Entry}
use Rattle.fs_msg.specs.declared.lead.Lead.{Lead as ToLead}
use Rattle.fs_msg.specs.declared.msg.Msg.{Msg}
use Rattle.fs_msg.specs.declared.msg.Msg.TheVariants as msg
use Rattle.fs_msg.specs.declared.note.Note.{Note}
use Rattle.fs_msg.specs.declared.note.Note.TheVariants as note
use Rattle.fs_field.specs.declared.vote.Vote.{Vote as AVote}
use Rattle.fs_msg.specs.declared.decide.Decide.{Decide as ToDecide}
use Rattle.fs_msg.specs.declared.done.Done.{Done as ToldDone}
use Rattle.fs_msg.specs.declared.prepare.Prepare.{Prepare as ToPrepare}
use Rattle.fs_msg.specs.declared.peer_msg.PeerMsg.{PeerMsg}
use Rattle.fs_msg.specs.declared.peer_msg.PeerMsg.TheVariants.{Parcel as OfParcel, Prepare, Vote, Decide, Done}
use Rattle.fs_msg.specs.declared.server_note.ServerNote.{ServerNote}
use Rattle.fs_msg.specs.declared.server_note.ServerNote.TheVariants as server
use Rattle.fs_msg.specs.declared.voted.Voted.{Voted}
use Rattle.fs_parcel.specs.declared.error.MoveError.{MoveError}
use Rattle.fs_record.specs.Effects.{tells_its_effects}
use Rattle.fs_record.specs.declared.led_end.LedEnd.{LedEnd}
use Rattle.fs_record.specs.declared.parcel.Parcel.{Parcel}
use Rattle.fs_txn.specs.Deciding.{decision}
use Rattle.fs_txn.specs.Leading.{elsewhere, end_of_decision, without_done}
use Rattle.fs_txn.specs.declared.decision.Decision.{Decision}
use Rattle.fs_txn.specs.declared.leading.Ending.{Ending}
use Rattle.fs_txn.specs.declared.leading.Leading.{Leading}
use Rattle.fs_view.specs.declared.view_lease.ViewLease.{ViewLease}
use Rattle.fs_client.specs.Acts.{act_plan}
use Rattle.fs_actor.specs.Hearing.{heard_in}
use Rattle.fs_client.specs.Client.{begun}
use Rattle.fs_client.specs.Turns.{ending, idle, release_some, renew_some, returned, ship_some, turn_free, turn_on, turn_plan}
use Rattle.fs_client.specs.declared.state.Client.{Client as ClientState}
use Rattle.fs_client.proofs.Refused.{act_over, acts_stay, turns_stay}
use Rattle.fs_server.proofs.Leading.{LeadEnds, begun as txn_begun, kept as path_kept, lead_ends, put_off, unled, wanted}
use Rattle.fs_server.specs.Begins.{Round, first_round, leader_with, part_round, parts_in, round_of, rounds, txn_of}
use Rattle.fs_server.specs.Concludes.{ends_now, goes_on, path_for, tells}
use Rattle.fs_server.specs.Counts.{after_own_vote, ask_for, asked_at, done_step, done_with, vote_step, with_vote}
use Rattle.fs_server.specs.Leads.{lead_step}
use Rattle.fs_server.specs.PathsHere.{asks_up}
use Rattle.fs_server.specs.Asks.{asked_in, recall_of, recalls_at}
use Rattle.fs_server.specs.Follows.{applies, is_prepared, recalls_for as paths_back, to_server, vote_here, votes}
use Rattle.fs_server.specs.Moves.{fits_here, move_at, parcel_at, peer_step}
use Rattle.fs_server.specs.Reaps.{lapsed_in, reap_from, recalls_for, turn_over}
use Rattle.fs_server.specs.Server.{Stepped as CoreStepped, begun as server_begun, is_mine, strange as server_strange}
use Rattle.fs_server.specs.Ships.{ship_from, shipped}
use Rattle.fs_server.specs.Step.{recalled_on, recalls_of, step as core_steps}
use Rattle.fs_server.specs.declared.event.ServerEvent.{ServerEvent}
use Rattle.fs_server.specs.declared.event.ServerEvent.TheVariants.{FromClient, FromPeer, Turn as TheTurn, Recall as TheRecall}
use Rattle.fs_server.specs.declared.event.ServerEvent.TheVariants.{Move as TheMove}
use Rattle.fs_server.specs.declared.state.Server.{Server as Core}
use Rattle.fs_serial.specs.Cluster.{is_with, without_first}
use Rattle.fs_serial.specs.declared.in_flight.InFlight.{InFlight}
use Rattle.fs_serial.proofs.Moves.PathSteps.{ArePathSends, each_message, refusal_here, refused, up_sent}
use Rattle.fs_serial.proofs.Transactions.Recalled.{recalls_on_paths}
use Rattle.fs_serial.proofs.Transactions.RoundsLocks.{round_by}
use Rattle.fs_schedule.specs.declared.event.What.{What}
use Rattle.fs_schedule.specs.declared.event.What.TheVariants.{Join, Do, Tell, Turn, Recall as AskBack, Move}
use Rattle.fs_world.specs.Over.{AllCaused, Said, all_said, said_in, sender_in}
use Rattle.fs_world.specs.Packets.{first_undelivered}
use Rattle.fs_world.specs.Refusals.{packet_delivered}
use Rattle.fs_world.specs.Carried.{Carries, GivesFirst, AreFirstOf, between, downs_of, joined_at, post_of, state_post}
use Rattle.fs_world.specs.Served.{SessionStepped, SessionStates, ServerStepped, Stepped, arrives, at_server, client_acts, client_turns}
use Rattle.fs_world.specs.Served.{comes, do_at, first_session_state, flying_without, join_at, sessions_without, sessions_without_each}
use Rattle.fs_world.specs.Served.{server_step_at, server_receive_packet, server_receive_packet_at, step_of, tell_at}
use Rattle.fs_world.specs.Served.{client_receive_packet_at, turn_at, with_downs, with_session, with_server, without_joined, without_up}
use Rattle.fs_world.specs.declared.form.Form.TheVariants as form
use Rattle.fs_world.specs.declared.servers.session_state.SessionState.{SessionState}
use Rattle.fs_world.specs.declared.servers.world.Served.{Served}
use Rattle.fs_world.proofs.HeardEach.{answers_in, heard_is}
use Rattle.fs_world.proofs.HeardSays.{Says, heard_says}
use Rattle.fs_world.proofs.LedEach.{each_done, each_goes, each_vote}
use Rattle.fs_world.proofs.ServerEach.{heard_is as server_heard_is, heard_notes as noted_there, server_notes, taking, taking_all}
use Rattle.fs_world.proofs.ServerNext.{AreNext, IsNext, events_in}
use Rattle.fs_world.proofs.Said.{AreGiven, AreKnown, IsKnown, IsNoted, WasGiven, act_caused, all_more, caused_append, downs_known}
use Rattle.fs_world.proofs.Said.{given_append, given_behind_all, heard_more, known_put, note_caused}

-- ## What a client notes of a turn is no answer

renew_noted : (before : List Said) (s : Session) (ks : List ViewLease) (c : ClientState) → IsNoted before s (renew_some ks c).out.note
renew_noted before s [] c = tt
renew_noted before s (k ∷ ks) c = tt

release_noted : (before : List Said) (s : Session) (ks : List ViewLease) (c : ClientState) → IsNoted before s (release_some ks c).out.note
release_noted before s [] c = renew_noted before s (ending (c.last + c.term / 2) c.view) c
release_noted before s (k ∷ ks) c = tt

ship_noted : (before : List Said) (s : Session) (es : List Entry) (c : ClientState) → IsNoted before s (ship_some es c).out.note
ship_noted before s [] c = tt
ship_noted before s (e ∷ es) c = tt

free_noted : (before : List Said) (s : Session) (c : ClientState) → IsNoted before s (turn_free c).out.note
free_noted before s c = elim (not (is_empty c.log) && not (is_some c.over)) as (λ b.
    IsNoted before s (cond b (ship_some c.log c) (release_some (returned c.view) c)).out.note) [
      | true ↦ ship_noted before s c.log c
      | false ↦ release_noted before s (returned c.view) c
    ]

turn_noted : (before : List Said) (s : Session) (c : ClientState) → IsNoted before s (turn_on c).out.note
turn_noted before s c = elim (is_some c.exchange) as (λ b. IsNoted before s (cond b (idle c) (turn_free c)).out.note) [
  | true ↦ tt
  | false ↦ free_noted before s c
]

-- ## What a server sends

recall_given : (now : List Said) (number : LeaseNo) (o : Option Row) → AreGiven now (recall_of number o)
recall_given now number None = tt
recall_given now number (Some row) = (tt, tt)

ask_given : (now : List Said) (e : End) (rows : List Row) → AreGiven now (recalls_at e rows)
ask_given now (end.Wait blocker) rows = recall_given now blocker (find (has_no blocker) rows)
ask_given now e rows = tt

recalls_given : (now : List Said) (leases : List (LeaseNo × Session)) → AreGiven now (recalls_of leases)
recalls_given now [] = tt
recalls_given now (x ∷ xs) = (tt, recalls_given now xs)

blockers_given : (now : List Said) (rows : List Row) (ns : List LeaseNo) → AreGiven now (recalls_for rows ns)
blockers_given now rows [] = tt
blockers_given now rows (n ∷ ns) = given_append now (recall_of n (find (has_no n) rows)) (recalls_for rows ns)
    (recall_given now n (find (has_no n) rows)) (blockers_given now rows ns)

turn_given : (now : List Said) (xs : List (List ℕ × Session)) (s : Core) → AreGiven now (turn_over xs s).out.send
turn_given now [] s = tt
turn_given now (x ∷ xs) s = let r = reap_from (x ∷ xs) s [] [] in blockers_given now r.server.rows r.blockers

abbrev SendsGiven : List Said → CoreStepped → Type 0
SendsGiven now x = AreGiven now x.out.send

-- messages of path leases answer no session
paths_given : (now : List Said) (ms : List (Peer × Msg)) → ArePathSends ms → AreGiven now ms
paths_given now [] sent = tt
paths_given now ((Server to, msg.Peer m) ∷ rest) sent = paths_given now rest sent.1
paths_given now ((Server to, msg.Answer a) ∷ rest) sent = absurd sent.0
paths_given now ((Server to, msg.Client a) ∷ rest) sent = absurd sent.0
paths_given now ((Client to, m) ∷ rest) sent = absurd sent.0

back_given : (now : List Said) (v : AVote) (s : Core) (p : Part) → AreGiven now (paths_back v s p)
back_given now v s p = paths_given now (paths_back v s p) (recalls_on_paths v s p)

move_given : (now : List Said) (o : Option MoveError) (prefix : List ℕ) (to : ℕ) (s : Core) → AreGiven now (move_at o prefix to s).out.send
move_given now (Some why) prefix to s =
    refused (SendsGiven now) s (λ n ms paths asking given noted sent. paths_given now ms sent) why prefix to
move_given now None prefix to s = tt

parcel_given : (now : List Said) (b : Bool) (p : Parcel) (s : Core) → AreGiven now (parcel_at b p s).out.send
parcel_given now true p s = tt
parcel_given now false p s = tt

prepare_given : (now : List Said) (b : Bool) (v : AVote) (from : ℕ) (m : ToPrepare) (s : Core)
    → AreGiven now (cond b (server_strange s) (votes v from m s)).out.send
prepare_given now true v from m s = tt
prepare_given now false v from m s = back_given now v s m.part

decide_given : (now : List Said) (b : Bool) (from : ℕ) (m : ToDecide) (s : Core)
    → AreGiven now (cond b (applies from m s) (server_strange s)).out.send
decide_given now true from m s = tt
decide_given now false from m s = tt

-- a part is told, or asked for
tells_given : (now : List Said) (txn : TxnNo) (d : Decision) (out : List (ℕ × ℕ)) → AreGiven now (tells txn d out)
tells_given now txn d [] = tt
tells_given now txn d (x ∷ xs) = tells_given now txn d xs

rounds_given : (now : List Said) (txn : TxnNo) (number : ℕ) (by : Session) (ps : List Part) (r : Round)
    → AreGiven now r.send → AreGiven now (rounds txn number by ps r).send
rounds_given now txn number by [] r h = h
rounds_given now txn number by (p ∷ ps) r h = rounds_given now txn (number + 1) by ps (part_round txn number by p r)
    (elim (is_mine r.server p.file) as (λ b. AreGiven now (round_by txn number by p r b).send) [
      | true ↦ given_append now r.send (paths_back (vote_here r.server by p) r.server p) h
          (back_given now (vote_here r.server by p) r.server p)
      | false ↦ given_append now r.send (to_server (server_of r.server.map p.file) (ask_for txn number by p) ∷ []) h tt
    ])

-- the end of what is led is no answer to a log
ends_given : (now : List Said) (out : List (ℕ × ℕ)) (by : Session) (e : LedEnd) → AreGiven now (ends_now out by e)
ends_given now [] by e = (tt, tt)
ends_given now (x ∷ xs) by e = tt

goes_given : (now : List Said) (n : ServerNote) (l : Leading) (path : Option PathAnswer) (sent : List (Peer × Msg)) (s : Core)
    → AreGiven now sent → SendsGiven now (goes_on n l path sent s)
goes_given now n l path sent s h =
    let d : Decision = decision l.leader path in
    let out : List (ℕ × ℕ) = elsewhere s.me l in
    let told = tells l.leader.txn d out in
    let ends = ends_now out l.leader.session (end_of_decision d) in
    each_goes (SendsGiven now) n l path sent s
    (given_append now sent (told ++ ends) h
    (given_append now told ends (tells_given now l.leader.txn d out) (ends_given now out l.leader.session (end_of_decision d)))) h

vote_given : (now : List Said) (m : Voted) (s : Core) → SendsGiven now (vote_step m s)
vote_given now m s = each_vote (SendsGiven now) m s tt
    (λ l p to f. tt)
    (λ l v f. goes_given now (server.Waits l.leader.txn) (with_vote m.number v l) (path_for l.leader.mode l.leader.op s) [] s tt)
    (λ l p f. let v : AVote = vote_here s l.leader.session p in
    goes_given now (server.Waits l.leader.txn) (with_vote m.number v (asked_at m.number s.me l)) (path_for l.leader.mode l.leader.op s)
    (paths_back v s p) (after_own_vote l.leader.txn p v s) (back_given now v s p))

left_given : (now : List Said) (x : Ending) (left : List (ℕ × ℕ)) (s : Core) → SendsGiven now (done_with x left s)
left_given now x [] s = (tt, tt)
left_given now x (y ∷ ys) s = tt

done_given : (now : List Said) (m : ToldDone) (s : Core) → SendsGiven now (done_step m s)
done_given now m s = each_done (SendsGiven now) m s tt (λ x left f. left_given now (without_done m.number x) left s)

peer_given : (now : List Said) (from : ℕ) (m : PeerMsg) (s : Core) → AreGiven now (peer_step from m s).out.send
peer_given now from (OfParcel p) s = parcel_given now (fits_here p s) p s
peer_given now from (Prepare m) s = prepare_given now (is_prepared m.txn m.number s.prepared) (vote_here s m.session m.part) from m s
peer_given now from (Vote m) s = vote_given now m s
peer_given now from (Decide m) s = decide_given now (is_prepared m.txn m.number s.prepared) from m s
peer_given now from (Done m) s = done_given now m s
peer_given now from m s =
    each_message (SendsGiven now) s (λ n ms paths asking given noted sent. paths_given now ms sent) from m tt

-- a packet of the session brings the question
abbrev IsFrom : Option Peer → ServerEvent → Type 0
IsFrom from (FromClient by m) = from ≡ Some (Client by)
IsFrom from e = Unit {0}

-- what the server says in its step
abbrev says : Option Peer → ℕ → ServerNote → List Said
says from k n = all_said from (Some (Server k)) (note.Server n ∷ [])

ship_given : (k : ℕ) (by : Session) (entries : List Entry) (s : Core) (from : Option Peer) → from ≡ Some (Client by) → (b : Bool)
    → AreGiven (says from k (cond b (shipped by (ship_from by entries s [])) (server_strange s)).out.note)
    (cond b (shipped by (ship_from by entries s [])) (server_strange s)).out.send
ship_given k by entries s from e true = subst (λ (o : Option Peer). AreGiven (says o k (shipped by (ship_from by entries s [])).out.note)
    (shipped by (ship_from by entries s [])).out.send) (sym e) (inl refl, tt)
ship_given k by entries s from e false = tt

lead_given : (k : ℕ) (by : Session) (m : ToLead) (s : Core) (from : Option Peer) (x : CoreStepped) → LeadEnds by m s x
    → AreGiven (says from k x.out.note) x.out.send
lead_given k by m s from x (unled l) = tt
lead_given k by m s from x (put_off w l r) = (tt, tt)
lead_given k by m s from x (wanted top dir l o) = (tt, paths_given (says from k x.out.note) (asks_up top dir s) (up_sent top dir s))
lead_given k by m s from x (path_kept file txn l o) = (tt, tt)
lead_given k by m s from x (txn_begun mode l b) =
    let now = says from k x.out.note in
    let g : Round = round_of mode by m s in
    goes_given now (server.Prepares (txn_of s)) (record { leader = leader_with mode (txn_of s) by m g.votes; at = g.at })
    (path_for mode m.op s) g.send g.server (rounds_given now (txn_of s) 0 by (parts_in mode m) (first_round s) tt)

message_given : (k : ℕ) (by : Session) (m : ClientMsg) (s : Core) (now : ℕ) (from : Option Peer) → from ≡ Some (Client by)
    → AreGiven (says from k (core_steps s now (FromClient by m)).out.note) (core_steps s now (FromClient by m)).out.send
message_given k by (Ask items dir) s now from e = let a = asked_in by items dir (server_begun now s) in
    (tt, ask_given (says from k (core_steps s now (FromClient by (Ask items dir))).out.note) a.end a.server.rows)
message_given k by (Renew pairs) s now from e = (tt, tt)
message_given k by (Release pairs) s now from e = (tt, tt)
message_given k by (Lead m) s now from e = let b : Core = server_begun now s in
    lead_given k by m b from (lead_step by m b) (lead_ends by m b)
message_given k by (Ship entries) s now from e =
    ship_given k by entries (server_begun now s) from e (list_all (λ (e : Entry). tells_its_effects e.op) entries)

step_given : (k : ℕ) (s : Core) (now : ℕ) (e : ServerEvent) (from : Option Peer) → IsFrom from e
    → AreGiven (says from k (core_steps s now e).out.note) (core_steps s now e).out.send
step_given k s now (FromClient by m) from is = message_given k by m s now from is
step_given k s now (FromPeer j m) from is = peer_given (says from k (core_steps s now (FromPeer j m)).out.note) j m (server_begun now s)
step_given k s now TheTurn from is = let b : Core = server_begun now s in
    turn_given (says from k (core_steps s now TheTurn).out.note) (lapsed_in b) b
step_given k s now (TheRecall field) from is =
    recalls_given (says from k (core_steps s now (TheRecall field)).out.note) (recalled_on field (server_begun now s))
step_given k s now (TheMove prefix to) from is = let b : Core = server_begun now s in
    move_given (says from k (core_steps s now (TheMove prefix to)).out.note) (refusal_here prefix to b)
    prefix to b

answered_caused : (before : List Said) (from : Option Peer) (k : ℕ) (n : ServerNote) → AllCaused before (says from k n)
answered_caused before None k (server.Admits count at gaps) = tt
answered_caused before (Some (Client by)) k (server.Admits count at gaps) = (tt, tt)
answered_caused before (Some (Server j)) k (server.Admits count at gaps) = tt
answered_caused before from k n = tt

-- ## A server's steps, one after another

-- it takes its step while these are the sessions
taken_says : (before : List Said) (now : ℕ) (from : Option Peer) (k : ℕ) (c : Core) (e : ServerEvent) (sessions : SessionStates)
    → IsFrom from e → AreKnown before sessions
    → Says before (says from k (core_steps c now e).out.note) (with_downs k (core_steps c now e).out.send sessions)
taken_says before now from k c e sessions is known =
    let new = says from k (core_steps c now e).out.note in
    record {
      caused = answered_caused before from k (core_steps c now e).out.note;
      known = downs_known (before ++ new) k (core_steps c now e).out.send sessions
          (given_behind_all before new (core_steps c now e).out.send (step_given k c now e from is)) (all_more before new sessions known);
    }

-- the events that a packet of this one brings
next_from : (k : ℕ) (who : Peer) (e : ServerEvent) (sessions : SessionStates) (in_flight : List InFlight)
    → IsNext k who e sessions in_flight → IsFrom (Some who) e
next_from k (Client s) e sessions in_flight h = subst (IsFrom (Some (Client s))) (sym h.is) refl
next_from k (Server i) e sessions in_flight h = subst (IsFrom (Some (Server i))) (sym h.is) tt

all_say : (es : List ServerEvent) (before : List Said) (now k : ℕ) (who : Peer) (x : ServerStepped) (sessions : SessionStates)
    (in_flight : List InFlight) → AreNext k who es sessions in_flight → AreKnown before x.sessions
    → Says before (all_said (Some who) (Some (Server k)) (server_notes now es x.server)) (taking_all k now es x).sessions
all_say [] before now k who x sessions in_flight next known = record { caused = tt; known = all_more before [] x.sessions known }
all_say (e ∷ es) before now k who x sessions in_flight next known =
    let said : Note = note.Server (core_steps x.server now e).out.note in
    let new = all_said (Some who) (Some (Server k)) (said ∷ []) in
    let y = taking k now e x in
    let more = all_said (Some who) (Some (Server k)) (server_notes now es y.server) in
    let first = taken_says before now (Some who) k x.server e x.sessions (next_from k who e sessions in_flight next.0) known in
    let then =
    all_say es (before ++ new) now k who y (sessions_without k who sessions) (flying_without k who in_flight) next.1 first.known in
    subst (λ (ss : List Said). Says before ss (taking_all k now es y).sessions)
    (ap (λ (ss : List Said). ss ++ more) (append-nil (said_in (Some who) (Some (Server k)) said)))
    (record {
      caused = caused_append before new more first.caused then.caused;
      known = subst (λ (ss : List Said). AreKnown ss (taking_all k now es y).sessions) (append_assoc before new more) then.known;
    })

-- of what a packet gave
heard_says_there : (x : HeardThere) (es : List ServerEvent) (before : List Said) (now k : ℕ) (who : Peer) (y : ServerStepped)
    (sessions : SessionStates) (in_flight : List InFlight) → AreNext k who es sessions in_flight → AreKnown before y.sessions
    → Says before (all_said (Some who) (Some (Server k)) (noted_there x now es y.server)) (taking_all k now es y).sessions
heard_says_there x [] before now k who y sessions in_flight next known =
    elim (x.fresh == 0) as (λ b. Says before (all_said (Some who) (Some (Server k)) (cond b note.None note.Part ∷ [])) y.sessions) [
      | true ↦ record { caused = tt; known = all_more before [] y.sessions known }
      | false ↦ record { caused = tt; known = all_more before [] y.sessions known }
    ]
heard_says_there x (e ∷ es) before now k who y sessions in_flight next known =
    all_say (e ∷ es) before now k who y sessions in_flight next known

-- messages of sessions are on their way no more
one_gone : (before : List Said) (k : ℕ) (who : Peer) (sessions : SessionStates) → AreKnown before sessions
    → AreKnown before (sessions_without k who sessions)
one_gone before k (Server j) sessions h = h
one_gone before k (Client s) sessions h = at (get sessions s.0) refl
  where
    at : (o : Option SessionState) → get sessions s.0 ≡ o → AreKnown before (without_up k o s.0 sessions)
    at None is = h
    at (Some state) is = known_put before sessions s (record state { up = without_first (is_with k) state.up }) h (record {
      over =
          (h s state is).over;
      coming = (h s state is).coming;
    })

gone_known : {Y : Type 0} (before : List Said) (k : ℕ) (who : Peer) (ys : List Y) (sessions : SessionStates) → AreKnown before sessions
    → AreKnown before (sessions_without_each k who ys sessions)
gone_known before k who [] sessions h = h
gone_known before k who (y ∷ ys) sessions h =
    gone_known before k who ys (sessions_without k who sessions) (one_gone before k who sessions h)

-- ## Each event

module _ (before : List Said) (w : Served) (h : AreKnown before w.sessions) (now : ℕ) (from : Option Peer) where
  abbrev pub Tells : Stepped → Type 0
  Tells x = Says before (all_said from x.outcome.who x.outcome.notes) x.world.sessions

  silent : (sessions : SessionStates) → AreKnown before sessions → Says before [] sessions
  silent sessions k = record { caused = tt; known = all_more before [] sessions k }

  -- ## At a session

  module _ (s : Session) (state : SessionState) (at : get w.sessions s.0 ≡ Some state) where
    known_here : IsKnown before s state
    known_here = h s state at

    -- the session's state is this, which is known behind what is said
    sits : (new : List Said) (next : SessionState) → AllCaused before new → IsKnown (before ++ new) s next
        → Says before new (insert w.sessions s.0 next)
    sits new next caused k =
        record { caused = caused; known = known_put (before ++ new) w.sessions s next (all_more before new w.sessions h) k }

    still_coming : (new : List Said) (down : List (ℕ × Answer)) → ((m : ℕ × Answer) → In m down → In m state.down) → (m : ℕ × Answer)
        → In m down → WasGiven (before ++ new) s m.1
    still_coming new down few m i = (all_more before new w.sessions h s state at).coming m (few m i)

    acts : (o : Op) → Tells (do_at (Some state) now s o w)
    acts o =
        let p = act_plan state.client now o in
        let new = all_said from (Some (Client s)) (note.Act p.out.note ∷ []) in
        sits new (client_acts now s o state w.journal w.packets).state
        (act_caused before from s p.out.note (λ n e. known_here.over n (act_over state.client now n o e)))
        (record {
          over = λ n e. heard_more before new s n (known_here.over n (sym (acts_stay state.client now o) ∙ e));
          coming = still_coming new state.down (λ m i. i);
        })

    turns : Tells (turn_at (Some state) now s w)
    turns =
        let p = turn_plan state.client now in
        let new = all_said from (Some (Client s)) (note.Client p.out.note ∷ []) in
        sits new (client_turns now s state w.journal w.packets).state
        (note_caused before from s p.out.note (turn_noted before s (begun now state.client)))
        (record {
          over = λ n e. heard_more before new s n (known_here.over n (sym (turns_stay state.client now) ∙ e));
          coming = still_coming new state.down (λ m i. i);
        })

  join_says : (s : Session) (o : Option SessionState) → Tells (join_at o s w)
  join_says s None = silent (insert w.sessions s.0 (first_session_state w.term s))
      (known_put before w.sessions s (first_session_state w.term s) h (record { over = λ n e. absurd (cc e); coming = λ m i. absurd i }))
  join_says s (Some state) = silent w.sessions h

  do_says : (s : Session) (op : Op) (o : Option SessionState) → get w.sessions s.0 ≡ o → Tells (do_at o now s op w)
  do_says s op None at = silent w.sessions h
  do_says s op (Some state) at = acts s state at op

  turns_says : (s : Session) (o : Option SessionState) → get w.sessions s.0 ≡ o → Tells (turn_at o now s w)
  turns_says s None at = silent w.sessions h
  turns_says s (Some state) at = turns s state at

  told_says : (s : Session) (k : ℕ) (p : Packet) (o : Option SessionState) → get w.sessions s.0 ≡ o
      → AreFirstOf (joined_at (state_post o) (Server k) p) (downs_of k o) → Tells (client_receive_packet_at o now s k p w)
  told_says s k p None at f = silent w.sessions h
  told_says s k p (Some state) at f =
      let a = post_accepted state.post (Server k) p in
      let there : SessionState = record state { post = a.links } in
      let heard = answers_in k a.heard.joined state.down f in
      subst (λ (x : SessionStepped). Tells (with_session s x w))
      (sym (heard_is s now k (heard_in (Server k) p) a.heard heard.0 there w.journal w.packets heard.1))
      (heard_says before w.sessions h now from s state at k (post_due a.links false (heard_in (Server k) p)).links a.heard heard.0 heard.2)

  -- ## At a server that there is

  module _ (k : ℕ) (c : Core) (post : Links) where
    server_receives : (who : Peer) (p : Packet) → from ≡ Some who
        → AreFirstOf (post_accepted post who p).heard.joined (between w who (Server k))
        → Tells (with_server k (server_receive_packet now k who p (at_server c post w)) w)
    server_receives who p of f =
        let a = post_accepted post who p in
        let x : ServerStepped = without_joined k who a.heard.joined (record (at_server c post w) { post = a.links }) in
        let es = events_in w k who a.heard.joined f in
        let known = gone_known before k who a.heard.joined w.sessions h in
        let then = heard_says_there a.heard es.0 before now k who x w.sessions w.in_flight es.2 known in
        subst (λ (y : ServerStepped). Tells (with_server k y w)) (sym (server_heard_is k now who (heard_in who p) a.heard es.0 x es.1))
        (subst (λ (o : Option Peer). Says before (all_said o (Some (Server k)) (noted_there a.heard now es.0 c))
        (taking_all k now es.0 x).sessions) (sym of) then)

  -- ## At any server

  receive_packet_at_server : (k : ℕ) (who : Peer) (p : Packet) (c : Option Core) (post : Option Links) → from ≡ Some who
      → AreFirstOf (joined_at post who p) (between w who (Server k)) → Tells (server_receive_packet_at c post now k who p w)
  receive_packet_at_server k who p (Some c) (Some post) of f = server_receives k c post who p of f
  receive_packet_at_server k who p (Some c) None of f = silent w.sessions h
  receive_packet_at_server k who p None (Some post) of f = silent w.sessions h
  receive_packet_at_server k who p None None of f = silent w.sessions h

  own_says : (k : ℕ) (turn : Bool) (e : ServerEvent) (c : Option Core) (post : Option Links) → IsFrom from e
      → Tells (server_step_at c post k turn now e w)
  own_says k turn e (Some c) (Some post) is = taken_says before now from k c e w.sessions is h
  own_says k turn e (Some c) None is = silent w.sessions h
  own_says k turn e None (Some post) is = silent w.sessions h
  own_says k turn e None None is = silent w.sessions h

  -- ## A packet is told

  comes_says : (who to : Peer) (p : Packet) → from ≡ Some who → AreFirstOf (joined_at (post_of w to) who p) (between w who to)
      → Tells (comes now who to p w)
  comes_says (Client s) (Server k) p of f = receive_packet_at_server k (Client s) p (slice_get w.servers k) (slice_get w.posts k) of f
  comes_says (Server j) (Server k) p of f = receive_packet_at_server k (Server j) p (slice_get w.servers k) (slice_get w.posts k) of f
  comes_says (Server j) (Client s) p of f = told_says s j p (get w.sessions s.0) refl f
  comes_says (Client r) (Client s) p of f = silent w.sessions h

  arrives_says : (who to : Peer) (p : Option Packet) → from ≡ Some who → GivesFirst w who to p → Tells (arrives now who to p w)
  arrives_says who to None of f = absurd f
  arrives_says who to (Some p) of f = comes_says who to p of f

-- each event, which a packet of this one brings, if any does
module _ (before : List Said) (w : Served) (h : AreKnown before w.sessions) (now : ℕ) where
  abbrev pub TellsOf : What → Type 0
  TellsOf what = Tells before w h now (sender_in (form.Served w) what) (step_of w now what)

  tell_says : Carries w → (what : What) (o : Option Sent) (k : ℕ) → packet_delivered w what ≡ o → slice_get w.packets.sent k ≡ o
      → Tells before w h now (option_map (λ (x : Sent). x.from) o) (tell_at o now k w)
  tell_says carry what None k is at = silent before w h now None w.sessions h
  tell_says carry what (Some x) k is at =
      arrives_says before w h now (Some x.from) x.from x.to (packet_at x.bytes) refl (carry x (In-got w.packets.sent k x at))

  pub step_says : Carries w → (what : What) → TellsOf what
  step_says carry (Join s) = join_says before w h now None s (get w.sessions s.0)
  step_says carry (Do s o) = do_says before w h now None s o (get w.sessions s.0) refl
  step_says carry (Tell None) = tell_says carry (Tell None) (slice_get w.packets.sent (first_undelivered w.packets.delivered))
      (first_undelivered w.packets.delivered) refl refl
  step_says carry (Tell (Some k)) = tell_says carry (Tell (Some k)) (slice_get w.packets.sent k) k refl refl
  step_says carry (Turn (Client s)) = turns_says before w h now None s (get w.sessions s.0) refl
  step_says carry (Turn (Server k)) = own_says before w h now None k true TheTurn (slice_get w.servers k) (slice_get w.posts k) tt
  step_says carry (AskBack k field) =
      own_says before w h now None k false (TheRecall field) (slice_get w.servers k) (slice_get w.posts k) tt
  step_says carry (Move k prefix to) =
      own_says before w h now None k false (TheMove prefix to) (slice_get w.servers k) (slice_get w.posts k) tt
