-- Whatever is no word of a transaction tells of no lease that it had ended, and no row with an old number is new then.
use Rattle.std.proofs.Common.{◌≡◌, ℕ, ◌≤◌, Bool, true, false, List, [], ◌∷◌, cond, length, refl, sym, ap, ap₂, ◌∙◌, subst, inl, inr, arith}
use Rattle.std.specs.Prelude.{Option, Some, None, slice_get, slice_set}
use Rattle.std.specs.List.{list_all}
use Rattle.fs_ident.specs.In.{In}
use Rattle.fs_ident.specs.declared.actor.Peer.{Peer}
use Rattle.fs_ident.specs.declared.actor.Peer.TheVariants.{Client as OfSession, Server as OfServer}
use Rattle.fs_ident.specs.declared.actor.Session.{Session}
use Rattle.fs_ident.proofs.Passing.{found}
use Rattle.fs_ident.proofs.Standing.{In-front, In-mapped}
use Rattle.fs_msg.specs.declared.answer.Answer.{Answer}
use Rattle.fs_msg.specs.declared.answer.Answer.TheVariants as answer
use Rattle.fs_msg.specs.declared.client_msg.ClientMsg.{ClientMsg}
use Rattle.fs_msg.specs.declared.client_msg.ClientMsg.TheVariants.{Ask, Renew, Release, Ship, Lead}
use Rattle.fs_msg.specs.declared.entry.Entry.{Entry}
use Rattle.fs_msg.specs.declared.msg.Msg.{Msg}
use Rattle.fs_msg.specs.declared.msg.Msg.TheVariants as msg
use Rattle.fs_msg.specs.declared.peer_msg.PeerMsg.{PeerMsg}
use Rattle.fs_msg.specs.declared.peer_msg.PeerMsg.TheVariants as peer
use Rattle.fs_msg.specs.declared.server_note.ServerNote.{ServerNote}
use Rattle.fs_msg.specs.declared.server_note.ServerNote.TheVariants as note
use Rattle.fs_msg.specs.declared.voted.Voted.{Voted as VotedMsg}
use Rattle.fs_parcel.specs.declared.error.MoveError.{MoveError}
use Rattle.fs_record.specs.Effects.{tells_its_effects}
use Rattle.fs_record.specs.declared.led_end.LedEnd.{LedEnd}
use Rattle.fs_record.specs.declared.parcel.Parcel.{Parcel}
use Rattle.fs_server.specs.Asks.{asked_in, recalls_at}
use Rattle.fs_server.specs.Moves.{fits_here, installed, move_at, parcel_at, peer_step}
use Rattle.fs_server.specs.Pairs.{numbers_in, pairs_here}
use Rattle.fs_server.specs.Reaps.{lapsed_in, reap_from, recalls_for, turn_over, turn_step}
use Rattle.fs_server.specs.Server.{Stepped, end_of, only_noted, strange, to_session}
use Rattle.fs_server.specs.Ships.{ship_from, shipped}
use Rattle.fs_server.specs.Step.{event_step, recalled_on, recalls_of}
use Rattle.fs_server.specs.declared.event.ServerEvent.{ServerEvent}
use Rattle.fs_server.specs.declared.event.ServerEvent.TheVariants as event
use Rattle.fs_server.specs.declared.state.Server.{Server}
use Rattle.fs_server.proofs.OneByOne.{reaps_leave}
use Rattle.fs_txn.specs.Stages.{Told}
use Rattle.fs_txn.specs.Stages.Word.{Voted}
use Rattle.fs_serial.specs.Cluster.{Cluster, InFlight, IsThere, after_step, in_flight_from, is_with}
use Rattle.fs_serial.specs.EndedLeases.{EndsFair}
use Rattle.fs_serial.specs.Leading.{LeavesLed}
use Rattle.fs_serial.specs.Owed.{ends_in, taken_leads}
use Rattle.fs_serial.specs.Seen.{ClusterHolds, counts_of, given_at, with_all}
use Rattle.fs_serial.specs.Sight.{Counts}
use Rattle.fs_serial.specs.Words.{IsNoneOfLed, decided_in, key_of, telling_of, told_in, told_with}
use Rattle.fs_serial.specs.World.{IsOther}
use Rattle.fs_serial.proofs.ClientMessages.Sending.{IsRecallTo, recall_all, recall_each, recall_with}
use Rattle.fs_serial.proofs.Lists.Counting.{given_by}
use Rattle.fs_serial.proofs.Lists.SetAt.{get_here}
use Rattle.fs_serial.proofs.Lists.Traffic.{messages}
use Rattle.fs_serial.specs.PathLaws.{IsPathMessage}
use Rattle.fs_serial.proofs.Moves.Arriving.{arriving_same}
use Rattle.fs_serial.proofs.Moves.Leaving.{move_same}
use Rattle.fs_serial.proofs.Moves.PathSteps.{ArePathSends, IsPathNote, each_message, refusal_here, refused, sent_path}
use Rattle.fs_serial.proofs.OneServer.SameStep.{IsSameStep, begun_in, turn_same}
use Rattle.fs_serial.proofs.OneServer.ServerSame.{asked_same, ships_same}
use Rattle.fs_serial.proofs.OtherSessions.Older.{IsLater, later_itself}
use Rattle.fs_serial.proofs.Replies.Knowing.{In-filter_map}
use Rattle.fs_serial.proofs.Returns.LaterSteps.{released_later, renewed_later}
use Rattle.fs_serial.proofs.Returns.ServerTurn.{later_reaped}
use Rattle.fs_serial.proofs.Transactions.OtherEvents.{other_leaves, parcel_fits, path_same}
use Rattle.fs_serial.proofs.Transactions.StandsAfter.{view}
use Rattle.fs_serial.proofs.WholeRuns.Addressing.{recall_free}
use Rattle.fs_serial.proofs.WholeRuns.EndedDecisions.{IsRightStep, NamesNone, noted_none}
use Rattle.fs_serial.proofs.WholeRuns.EndedStay.{RowsLater, count_own, counts_rise, same_later}
use Rattle.fs_serial.proofs.WholeRuns.EndedSteps.{event_ending, event_fair, event_leading, event_one}
use Rattle.fs_serial.proofs.WholeRuns.Views.{count_set}

-- ## What is answered

-- the answer tells how an operation that was led ended
abbrev TellsEnd : Session → LedEnd → List (Peer × Msg) → Type 0
TellsEnd to e ms = In (OfSession to, msg.Answer (answer.Led e)) ms

recalls_free : (ms : List (Peer × Msg)) → ((m : Peer × Msg) → In m ms → IsRecallTo m) → (to : Session) (e : LedEnd) → TellsEnd to e ms → ⊥
recalls_free ms are to e i =
    recall_free (OfSession to, msg.Answer (answer.Led e)) (are (OfSession to, msg.Answer (answer.Led e)) i) to (answer.Led e) refl refl

-- one answer of another kind, and recalls behind it
one_free : (by : Session) (a : Answer) (rest : List (Peer × Msg)) → ((m : Peer × Msg) → In m rest → IsRecallTo m)
    → (to : Session) (e : LedEnd) → (answer.Led e ≡ a → ⊥) → TellsEnd to e (to_session by a ∷ rest) → ⊥
one_free by a rest are to e other (inl q) =
    let same : msg.Answer (answer.Led e) ≡ msg.Answer a = ap (λ (p : Peer × Msg). p.1) q in
    let is : answer.Led e ≡ a = cc in
    other is
one_free by a rest are to e other (inr i) = recalls_free rest are to e i

ship_free : (by : Session) (entries : List Entry) (s : Server) (b : Bool) (to : Session) (e : LedEnd)
    → TellsEnd to e (cond b (shipped by (ship_from by entries s [])) (strange s)).out.send → ⊥
ship_free by entries s true to e i =
    let x = ship_from by entries s [] in
    one_free by (answer.Shipped (length x.admitted) x.end) [] (λ m j. absurd j) to e (λ q. absurd (cc q)) i
ship_free by entries s false to e i = i

message_free : (by : Session) (m : ClientMsg) (s : Server) → IsNoneOfLed (event.FromClient by m) → (to : Session) (e : LedEnd)
    → TellsEnd to e (event_step (event.FromClient by m) s).out.send → ⊥
message_free by (Ask items dir) s none to e i =
    let a = asked_in by items dir s in
    one_free by (answer.Granted a.grants a.fresh a.end) (recalls_at a.end a.server.rows) (recall_with a.end a.server.rows) to e
    (λ q. absurd (cc q)) i
message_free by (Renew pairs) s none to e i = one_free by _ [] (λ m j. absurd j) to e (λ q. absurd (cc q)) i
message_free by (Release pairs) s none to e i = one_free by _ [] (λ m j. absurd j) to e (λ q. absurd (cc q)) i
message_free by (Ship entries) s none to e i = ship_free by entries s (list_all (λ (x : Entry). tells_its_effects x.op) entries) to e i
message_free by (Lead m) s none to e i = absurd none

turn_free : (xs : List (List ℕ × Session)) (s : Server) (to : Session) (e : LedEnd) → TellsEnd to e (turn_over xs s).out.send → ⊥
turn_free [] s to e i = i
turn_free (x ∷ xs) s to e i =
    let r = reap_from (x ∷ xs) s [] [] in
    recalls_free (recalls_for r.server.rows r.blockers) (recall_each r.server.rows r.blockers) to e i

parcel_free : (b : Bool) (p : Parcel) (s : Server) (to : Session) (e : LedEnd) → TellsEnd to e (parcel_at b p s).out.send → ⊥
parcel_free true p s to e i = i
parcel_free false p s to e i = i

paths_free : (ms : List (Peer × Msg)) → ArePathSends ms → (to : Session) (e : LedEnd) → TellsEnd to e ms → ⊥
paths_free ms sent to e = sent_path ms sent (OfSession to, msg.Answer (answer.Led e))

move_free : (o : Option MoveError) (prefix : List ℕ) (at : ℕ) (s : Server) (to : Session) (e : LedEnd)
    → TellsEnd to e (move_at o prefix at s).out.send → ⊥
move_free None prefix at s to e (inl q) =
    let same : OfSession to ≡ OfServer at = ap (λ (p : Peer × Msg). p.0) q in absurd (cc same)
move_free None prefix at s to e (inr z) = z
move_free (Some why) prefix at s to e i =
    refused (λ (x : Stepped). TellsEnd to e x.out.send → ⊥) s (λ n ms paths asking given noted sent. paths_free ms sent to e)
    why prefix at i

event_free : (x : ServerEvent) (s : Server) → IsNoneOfLed x → (to : Session) (e : LedEnd) → TellsEnd to e (event_step x s).out.send → ⊥
event_free (event.FromClient by m) s none to e i = message_free by m s none to e i
event_free (event.FromPeer from (peer.Parcel p)) s none to e i = parcel_free (fits_here p s) p s to e i
event_free (event.FromPeer from (peer.Prepare m)) s none to e i = absurd (cc none)
event_free (event.FromPeer from (peer.Vote m)) s none to e i = absurd (cc none)
event_free (event.FromPeer from (peer.Decide m)) s none to e i = absurd (cc none)
event_free (event.FromPeer from (peer.Done m)) s none to e i = absurd (cc none)
event_free (event.FromPeer from m) s none to e i =
    each_message (λ (x : Stepped). TellsEnd to e x.out.send → ⊥) s (λ n ms paths asking given noted sent. paths_free ms sent to e)
    from m tt i
event_free event.Turn s none to e i = turn_free (lapsed_in s) s to e i
event_free (event.Recall field) s none to e i = recalls_free (recalls_of (recalled_on field s)) (recall_all (recalled_on field s)) to e i
event_free (event.Move prefix at) s none to e i = move_free (refusal_here prefix at s) prefix at s to e i

-- ## What is noted

ship_noted : (by : Session) (entries : List Entry) (s : Server) (b : Bool)
    → NamesNone (cond b (shipped by (ship_from by entries s [])) (strange s)).out.note
ship_noted by entries s true txn number end now e = absurd (cc e)
ship_noted by entries s false txn number end now e = absurd (cc e)

turn_noted : (xs : List (List ℕ × Session)) (s : Server) → NamesNone (turn_over xs s).out.note
turn_noted [] s txn number end now e = absurd (cc e)
turn_noted (x ∷ xs) s txn number end now e = absurd (cc e)

parcel_noted : (b : Bool) (p : Parcel) (s : Server) → NamesNone (parcel_at b p s).out.note
parcel_noted true p s txn number end now e = absurd (cc e)
parcel_noted false p s txn number end now e = absurd (cc e)

path_noted : (n : ServerNote) → IsPathNote n → NamesNone n
path_noted n noted txn number end now e = subst IsPathNote e noted

move_noted : (o : Option MoveError) (prefix : List ℕ) (to : ℕ) (s : Server) → NamesNone (move_at o prefix to s).out.note
move_noted None prefix to s = λ txn number end now e. absurd (cc e)
move_noted (Some why) prefix to s =
    refused (λ (x : Stepped). NamesNone x.out.note) s (λ n ms paths asking given noted sent. path_noted n noted) why prefix to

event_noted : (x : ServerEvent) (s : Server) → IsNoneOfLed x → NamesNone (event_step x s).out.note
event_noted (event.FromClient by (Ask items dir)) s none txn number end now e = absurd (cc e)
event_noted (event.FromClient by (Renew pairs)) s none txn number end now e = absurd (cc e)
event_noted (event.FromClient by (Release pairs)) s none txn number end now e = absurd (cc e)
event_noted (event.FromClient by (Ship entries)) s none txn number end now e =
    ship_noted by entries s (list_all (λ (x : Entry). tells_its_effects x.op) entries) txn number end now e
event_noted (event.FromClient by (Lead m)) s none txn number end now e = absurd none
event_noted (event.FromPeer from (peer.Parcel p)) s none txn number end now e = parcel_noted (fits_here p s) p s txn number end now e
event_noted (event.FromPeer from (peer.Prepare m)) s none txn number end now e = absurd (cc none)
event_noted (event.FromPeer from (peer.Vote m)) s none txn number end now e = absurd (cc none)
event_noted (event.FromPeer from (peer.Decide m)) s none txn number end now e = absurd (cc none)
event_noted (event.FromPeer from (peer.Done m)) s none txn number end now e = absurd (cc none)
event_noted (event.FromPeer from m) s none txn number end now e =
    each_message (λ (x : Stepped). NamesNone x.out.note) s (λ n ms paths asking given noted sent. path_noted n noted) from m tt
    txn number end now e
event_noted event.Turn s none txn number end now e = turn_noted (lapsed_in s) s txn number end now e
event_noted (event.Recall field) s none txn number end now e = absurd (cc e)
event_noted (event.Move prefix to) s none txn number end now e =
    move_noted (refusal_here prefix to s) prefix to s txn number end now e

-- ## Words

-- what is sent to a server is on its way to it
pub flight_there : (k : ℕ) (ms : List (Peer × Msg)) (to : ℕ) (m : PeerMsg) → In (OfServer to, msg.Peer m) ms
    → In (let f : InFlight = record { from = k; to = to; message = m } in f) (in_flight_from k ms)
flight_there k [] to m i = absurd i
flight_there k ((OfServer t, msg.Peer x) ∷ rest) to m (inl e) =
    let place : OfServer to ≡ OfServer t = ap (λ (p : Peer × Msg). p.0) e in
    let word : msg.Peer m ≡ msg.Peer x = ap (λ (p : Peer × Msg). p.1) e in
    let at : to ≡ t = cc in
    let is : m ≡ x = cc in
    inl (ap₂ (λ (n : ℕ) (y : PeerMsg). let f : InFlight = record { from = k; to = n; message = y } in f) at is)
flight_there k ((OfServer t, msg.Peer x) ∷ rest) to m (inr i) = inr (flight_there k rest to m i)
flight_there k ((OfServer t, msg.Answer a) ∷ rest) to m (inl e) =
    let wrong : msg.Peer m ≡ msg.Answer a = ap (λ (p : Peer × Msg). p.1) e in absurd (cc wrong)
flight_there k ((OfServer t, msg.Answer a) ∷ rest) to m (inr i) = flight_there k rest to m i
flight_there k ((OfServer t, msg.Client a) ∷ rest) to m (inl e) =
    let wrong : msg.Peer m ≡ msg.Client a = ap (λ (p : Peer × Msg). p.1) e in absurd (cc wrong)
flight_there k ((OfServer t, msg.Client a) ∷ rest) to m (inr i) = flight_there k rest to m i
flight_there k ((OfSession t, x) ∷ rest) to m (inl e) =
    let wrong : OfServer to ≡ OfSession t = ap (λ (p : Peer × Msg). p.0) e in absurd (cc wrong)
flight_there k ((OfSession t, x) ∷ rest) to m (inr i) = flight_there k rest to m i

-- a vote that is sent is a word of a transaction
vote_told : (k : ℕ) (ms : List (Peer × Msg)) → telling_of (in_flight_from k ms) ≡ [] → (to : ℕ) (m : VotedMsg)
    → In (OfServer to, msg.Peer (peer.Vote m)) ms → ⊥
vote_told k ms none to m i =
    let told : Told = told_with k to (key_of m.txn m.number, Voted m.vote) in
    subst (In told) none (In-filter_map told_in (record { from = k; to = to; message = peer.Vote m }) told (in_flight_from k ms)
    (flight_there k ms to (peer.Vote m) i) refl)

-- ## Rows

message_later : (o : Counts) (by : Session) (m : ClientMsg) (t : Server) → IsOther (event.FromClient by m)
    → IsLater (given_by o t) (given_by o (event_step (event.FromClient by m) t).server) t.rows
    (event_step (event.FromClient by m) t).server.rows
message_later o by (Ask items dir) t other = (asked_same by items dir t).later o
message_later o by (Renew pairs) t other = renewed_later (given_by o t) (end_of t) (numbers_in (pairs_here t pairs)) t.rows
message_later o by (Release pairs) t other = released_later (given_by o t) (numbers_in (pairs_here t pairs)) t.rows
message_later o by (Ship entries) t other = elim (list_all (λ (x : Entry). tells_its_effects x.op) entries) as
    (λ b. IsLater (given_by o t) (given_by o (cond b (shipped by (ship_from by entries t [])) (strange t)).server) t.rows
    (cond b (shipped by (ship_from by entries t [])) (strange t)).server.rows) [
      | true ↦ (ships_same by entries t []).later o
      | false ↦ later_itself (given_by o t) t.rows
    ]
message_later o by (Lead m) t other = absurd other

turn_later : (o : Counts) (xs : List (List ℕ × Session)) (t : Server)
    → IsLater (given_by o t) (given_by o (turn_over xs t).server) t.rows (turn_over xs t).server.rows
turn_later o [] t = later_itself (given_by o t) t.rows
turn_later o (x ∷ xs) t = later_reaped o t (reap_from (x ∷ xs) t [] []).server (reaps_leave (x ∷ xs) t [] [])

move_given : (o : Option MoveError) (prefix : List ℕ) (to : ℕ) (s : Server) → (move_at o prefix to s).server.given ≡ s.given
move_given None prefix to s = refl
move_given (Some why) prefix to s =
    refused (λ (x : Stepped). x.server.given ≡ s.given) s (λ n ms paths asking given noted sent. refl) why prefix to

module _ (skew greatest k : ℕ) (c : Cluster) (s : Server) (at : slice_get c.servers k ≡ Some s) (h : ClusterHolds skew greatest c) where
  me : s.me ≡ k
  me = h.places.numbered k s at

  -- what comes of the event at the server that has all
  seen_later : (e : ServerEvent) (small big : Stepped) → IsSameStep k e s small big c
      → IsLater (given_by (counts_of c.servers) (with_all s c)) (given_by (counts_of c.servers) big.server)
      (with_all s c).rows big.server.rows
      → RowsLater c (after_step k e small c)
  seen_later e small big same later = record {
    given = λ j.
        let more = later.given j in
        let was = own j in
        let is = then j in
        omega (arith, more, was, is);
    older = λ r i few. later.older r (subst (In r) (sym (ap (λ (t : Server). t.rows) same.server)) i)
        (subst (λ n. r.no.count ≤ n) (sym (own r.no.server)) few);
  }
    where
      own : (j : ℕ) → given_by (counts_of c.servers) (with_all s c) j ≡ given_at (slice_get c.servers j)
      own j = count_own c.servers k s at me j

      then : (j : ℕ) → given_by (counts_of c.servers) big.server j ≡ given_at (slice_get (slice_set c.servers k small.server) j)
      then j =
          let its : small.server.me ≡ k = same.me ∙ me in
          ap (λ (t : Server). given_by (counts_of c.servers) t j) same.server
          ∙ sym (count_set given_at c.servers k small.server.me small.server.given small.server its j)
          ∙ count_own (slice_set c.servers k small.server) k small.server (get_here c.servers k s small.server at) its j

  asked_later : (by : Session) (m : ClientMsg) → IsThere k (event.FromClient by m) c → IsOther (event.FromClient by m)
      → RowsLater c (after_step k (event.FromClient by m) (event_step (event.FromClient by m) s) c)
  asked_later by m there other =
      let e : ServerEvent = event.FromClient by m in
      let w = view skew greatest k c s at h in
      let coming : In m (ends_in c by).up = In-front m (messages (c.lines by).up) (taken_leads by (c.lines by).client.led c.servers)
      (In-mapped (λ (n : ℕ × ClientMsg). n.1) (k, m) (c.lines by).up (found (is_with k) (c.lines by).up (k, m) there).0) in
      seen_later e (event_step e s) (event_step e (with_all s c))
      (begun_in greatest k c s e at h.places (decided_in c) (ends_in c) w.0 coming other (λ z. absurd (cc)))
      (message_later (counts_of c.servers) by m (with_all s c) other)

  rises : (t : Server) → t.given ≡ s.given → (j : ℕ)
      → given_at (slice_get c.servers j) ≤ given_at (slice_get (slice_set c.servers k t) j)
  rises t given = counts_rise c.servers k s t at (omega (arith, given))

  parcel_later : (from : ℕ) (p : Parcel) → IsThere k (event.FromPeer from (peer.Parcel p)) c
      → RowsLater c (after_step k (event.FromPeer from (peer.Parcel p)) (event_step (event.FromPeer from (peer.Parcel p)) s) c)
  parcel_later from p there =
      let e : ServerEvent = event.FromPeer from (peer.Parcel p) in
      let x : Stepped = only_noted (note.Installs p.prefix) (installed p s) in
      let is : x ≡ event_step e s = ap (λ b. parcel_at b p s) (sym (parcel_fits skew greatest k c s at h from p there)) in
      subst (λ (y : Stepped). RowsLater c (after_step k e y c)) is
      (same_later c (after_step k e x c) (arriving_same k from c s p at h.places there).0 (rises x.server refl))

  move_later : (prefix : List ℕ) (to : ℕ)
      → RowsLater c (after_step k (event.Move prefix to) (event_step (event.Move prefix to) s) c)
  move_later prefix to =
      let e : ServerEvent = event.Move prefix to in
      same_later c (after_step k e (event_step e s) c) (move_same k c s prefix to at h.places).0
      (rises (event_step e s).server (move_given (refusal_here prefix to s) prefix to s))

  path_later : (from : ℕ) (m : PeerMsg) → IsPathMessage m → IsThere k (event.FromPeer from m) c
      → RowsLater c (after_step k (event.FromPeer from m) (event_step (event.FromPeer from m) s) c)
  path_later from m is there =
      let given : (peer_step from m s).server.given ≡ s.given =
      each_message (λ (x : Stepped). x.server.given ≡ s.given) s (λ n ms paths asking given noted sent. refl) from m is in
      same_later c (after_step k (event.FromPeer from m) (peer_step from m s) c) (path_same skew greatest k c s at h from m is there).0
      (rises (peer_step from m s).server given)

  pub other_later : (e : ServerEvent) → IsThere k e c → IsNoneOfLed e → RowsLater c (after_step k e (event_step e s) c)
  other_later (event.FromClient by (Ask items dir)) there none = asked_later by (Ask items dir) there tt
  other_later (event.FromClient by (Renew pairs)) there none = asked_later by (Renew pairs) there tt
  other_later (event.FromClient by (Release pairs)) there none = asked_later by (Release pairs) there tt
  other_later (event.FromClient by (Ship entries)) there none = asked_later by (Ship entries) there tt
  other_later (event.FromClient by (Lead m)) there none = absurd none
  other_later (event.FromPeer from (peer.Parcel p)) there none = parcel_later from p there
  other_later (event.FromPeer from (peer.Prepare m)) there none = absurd (cc none)
  other_later (event.FromPeer from (peer.Vote m)) there none = absurd (cc none)
  other_later (event.FromPeer from (peer.Decide m)) there none = absurd (cc none)
  other_later (event.FromPeer from (peer.Done m)) there none = absurd (cc none)
  other_later (event.FromPeer from m) there none = path_later from m tt there
  other_later event.Turn there none =
      seen_later event.Turn (turn_step s) (turn_over (lapsed_in s) (with_all s c)) (turn_same k c s at h.places)
      (turn_later (counts_of c.servers) (lapsed_in s) (with_all s c))
  other_later (event.Recall field) there none =
      let e : ServerEvent = event.Recall field in
      let w = view skew greatest k c s at h in
      seen_later e (event_step e s) (event_step e (with_all s c))
      (begun_in greatest k c s e at h.places (decided_in c) (ends_in c) w.0 tt tt (λ z. absurd (cc)))
      (later_itself (given_by (counts_of c.servers) (with_all s c)) (with_all s c).rows)
  other_later (event.Move prefix to) there none = move_later prefix to

  pub other_fair : EndsFair c → (e : ServerEvent) → IsThere k e c → IsNoneOfLed e → IsRightStep k e c (event_step e s)
  other_fair f e there none =
      let x : Stepped = event_step e s in
      let leaves : LeavesLed k e s x c = other_leaves skew greatest k c s at h e there none in
      let later : RowsLater c (after_step k e x c) = other_later e there none in (
        event_fair skew greatest k c s at h f e x (record {
          later = later;
          leading = λ l i. event_leading skew greatest k c s at h f e x later l (subst (In l) leaves.leading i);
          before = λ l o i. event_one skew greatest k c s at h f e x l o (subst (In l) leaves.leading i);
          ending = λ y i. event_ending skew greatest k c s at h f e x later y (subst (In y) leaves.ending i);
          votes = λ to m i. absurd (vote_told k x.out.send leaves.words to m i);
          answers = λ to z i. absurd (event_free e s none to z i);
        }),
        noted_none c e (after_step k e x c) x.out.note (event_noted e s none),
      )
