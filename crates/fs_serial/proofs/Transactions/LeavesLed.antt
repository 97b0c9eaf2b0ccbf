-- Events of a server that are no word of a transaction, nor a question to lead one: its tables, words and locks stay.
use Rattle.std.proofs.Common.{◌≡◌, ◌==◌, ◌≤◌, ◌++◌, ℕ, max, Bool, true, false, List, [], ◌∷◌}
use Rattle.std.proofs.Common.{refl, sym, ap, ◌∙◌, subst, cond, inl, inr, filter, append-nil, arith}
use Rattle.std.specs.Prelude.{Option, Some, None, slice_get, slice_set}
use Rattle.std.specs.List.{list_all}
use Rattle.fs_ident.specs.In.{In}
use Rattle.fs_ident.specs.Ident.{child}
use Rattle.fs_ident.specs.declared.actor.LeaseNo.{LeaseNo}
use Rattle.fs_ident.specs.declared.actor.Peer.{Peer}
use Rattle.fs_ident.specs.declared.actor.Session.{Session}
use Rattle.fs_ident.specs.declared.actor.TxnNo.{TxnNo}
use Rattle.fs_ident.proofs.Same.{one_session}
use Rattle.fs_ident.proofs.Standing.{In-append, In-filter, In-map}
use Rattle.fs_field.specs.Table.{borne_numbers}
use Rattle.fs_field.specs.declared.field.Field.{Field}
use Rattle.fs_field.specs.declared.field.Field.TheVariants.{Life}
use Rattle.fs_field.specs.declared.lease_kind.LeaseKind.{LeaseKind}
use Rattle.fs_field.specs.declared.lease_kind.LeaseKind.TheVariants.{Exclusive}
use Rattle.fs_field.specs.declared.row.Row.{Row}
use Rattle.fs_moderows.specs.Answer.{given_row}
use Rattle.fs_msg.specs.declared.answer.Answer.{Answer}
use Rattle.fs_msg.specs.declared.client_msg.ClientMsg.{ClientMsg}
use Rattle.fs_msg.specs.declared.client_msg.ClientMsg.TheVariants.{Ask, Renew, Release, Ship, Lead}
use Rattle.fs_msg.specs.declared.end.End.{End}
use Rattle.fs_msg.specs.declared.end.End.TheVariants as end
use Rattle.fs_msg.specs.declared.entry.Entry.{Entry}
use Rattle.fs_msg.specs.declared.msg.Msg.{Msg}
use Rattle.fs_msg.specs.declared.peer_msg.PeerMsg.{PeerMsg}
use Rattle.fs_msg.specs.declared.peer_msg.PeerMsg.TheVariants as peer
use Rattle.fs_msg.specs.declared.server_note.ServerNote.{ServerNote}
use Rattle.fs_msg.specs.declared.server_note.ServerNote.TheVariants as note
use Rattle.fs_parcel.proofs.Both.{passing}
use Rattle.fs_path.specs.Tables.{PathTables, first_in}
use Rattle.fs_parcel.specs.declared.error.MoveError.{MoveError}
use Rattle.fs_record.specs.Effects.{tells_its_effects}
use Rattle.fs_record.specs.Fresh.{fresh_number, is_directory}
use Rattle.fs_record.specs.declared.parcel.Parcel.{Parcel}
use Rattle.fs_client.specs.declared.exchange.Exchange.{Exchange}
use Rattle.fs_client.specs.declared.exchange.Exchange.TheVariants.{Leads}
use Rattle.fs_client.specs.declared.led.Led.{Led}
use Rattle.fs_server.specs.Asks.{Asking, ask_fresh, ask_from, ask_step, asked_in, fresh_for, fresh_in, fresh_of, with_lease}
use Rattle.fs_server.specs.Moves.{fits_here, hands_over, move_at, move_step, parcel_at, peer_step}
use Rattle.fs_server.specs.Pairs.{numbers_in, pairs_here, release_step, renew_step}
use Rattle.fs_server.specs.Reaps.{lapsed_in, reap_from, turn_over, turn_step}
use Rattle.fs_server.specs.Server.{Stepped, begun, end_of, is_mine, moved, next_number, only_noted, strange}
use Rattle.fs_server.specs.Ships.{ship_from, ship_step, shipped}
use Rattle.fs_server.specs.Step.{event_step, recall_step, recalled_on, step}
use Rattle.fs_server.specs.declared.event.ServerEvent.{ServerEvent}
use Rattle.fs_server.specs.declared.event.ServerEvent.TheVariants as event
use Rattle.fs_server.specs.declared.state.Server.{Server}
use Rattle.fs_server.proofs.OneByOne.{each_item, reaps_leave, ships_leave}
use Rattle.fs_txn.specs.Locks.{LeavesLocks}
use Rattle.fs_txn.specs.Stages.{Told}
use Rattle.fs_txn.specs.declared.leading.Ending.{Ending}
use Rattle.fs_txn.specs.declared.leading.Leading.{Leading}
use Rattle.fs_serial.specs.Cluster.{Cluster, IsThere, Lines, after_step, in_flight_from, is_between, without_arrived}
use Rattle.fs_serial.specs.Exchange.{IsQuestion, OneExchange}
use Rattle.fs_serial.specs.Leading.{IsLedBy, LeavesLed, LedHolds}
use Rattle.fs_serial.specs.PathLaws.{IsPathMessage}
use Rattle.fs_serial.specs.Words.{Comes, IsNoneOfLed, telling_of, word_in}
use Rattle.fs_serial.proofs.Moves.PathSteps.{ArePathSends, each_message, none_worded, path_stepped, refusal_here, refused}
use Rattle.fs_serial.proofs.OneServer.Sim.{recalls_quiet}
use Rattle.fs_serial.proofs.OneServer.SimAsk.{asked_quiet}
use Rattle.fs_serial.proofs.OneServer.SimTurn.{reaps_quiet}
use Rattle.fs_serial.proofs.Returns.Lapsing.{begun_at}
use Rattle.fs_serial.proofs.Transactions.Desks.{not_heard}
use Rattle.fs_serial.proofs.Transactions.LocksLeft.{locks_begun, locks_itself, locks_left, locks_released}
use Rattle.fs_serial.proofs.Transactions.LocksLeft.{locks_renewed, locks_then, locks_with_row, locks_with_rows}
use Rattle.fs_serial.proofs.Transactions.OneOfSession.{ends_at, leads_at, txns_at, txns_of}
use Rattle.fs_serial.proofs.Transactions.OthersKeep.{step_keeps_led}
use Rattle.fs_serial.proofs.Transactions.OwnersOfLocks.{lock_txn}
use Rattle.fs_serial.proofs.Transactions.Tables.{In_some}

-- ## The server

-- its tables stay, and its locks
pub record KeepsTables (s t : Server) : Type 0 where
  pub me : t.me ≡ s.me
  pub txns : s.txns ≤ t.txns
  pub leading : t.leading ≡ s.leading
  pub ending : t.ending ≡ s.ending
  pub prepared : t.prepared ≡ s.prepared
  pub locks : LeavesLocks s.rows t.rows

pub tables_itself : (s : Server) → KeepsTables s s
tables_itself s = record { me = refl; txns = omega arith; leading = refl; ending = refl; prepared = refl; locks = locks_itself s.rows }

pub tables_then : (a b c : Server) → KeepsTables a b → KeepsTables b c → KeepsTables a c
tables_then a b c f g =
    let p : a.txns ≤ b.txns = f.txns in
    let q : b.txns ≤ c.txns = g.txns in
    record {
      me = g.me ∙ f.me;
      txns = omega (arith, p, q);
      leading = g.leading ∙ f.leading;
      ending = g.ending ∙ f.ending;
      prepared = g.prepared ∙ f.prepared;
      locks = locks_then a.rows b.rows c.rows f.locks g.locks;
    }

abbrev in_words : ℕ → Stepped → List Told
in_words k x = telling_of (in_flight_from k x.out.send)

abbrev comes_words : ℕ → ServerEvent → Cluster → List Told
comes_words k e c = telling_of (without_arrived k e c.in_flight)

-- nothing is told to other servers, and what comes is no word
pub leaves_led : (k : ℕ) (e : ServerEvent) (s : Server) (x : Stepped) (c : Cluster) → KeepsTables s x.server → in_words k x ≡ []
    → comes_words k e c ≡ telling_of c.in_flight → LeavesLed k e s x c
leaves_led k e s x c q sent taken = record {
  me = q.me;
  txns = q.txns;
  leading = q.leading;
  ending = q.ending;
  prepared = q.prepared;
  words = sent;
  taken = taken;
  locks = q.locks;
}

-- the rows that are over are dropped
pub begun_tables : (now : ℕ) (s : Server) → KeepsTables s (begun now s)
begun_tables now s = record {
  me = refl;
  txns = omega arith;
  leading = refl;
  ending = refl;
  prepared = refl;
  locks = locks_begun (max s.last now) s.skew s.rows;
}

-- ## A question

lease_tables : (by : Session) (field : Field) (kind : LeaseKind) (promise : Option Bool) (s : Server)
    → KeepsTables s (with_lease by field kind promise s)
lease_tables by field kind promise s = record {
  me = refl;
  txns = omega arith;
  leading = refl;
  ending = refl;
  prepared = refl;
  locks = locks_with_row (given_row (next_number s) by field kind (end_of s) promise) s.rows refl;
}

items_tables : (by : Session) (items : List (Field × LeaseKind)) (s : Server) → KeepsTables s (ask_from by items s []).server
items_tables by items s = each_item by (λ items s grants a. KeepsTables s a.server) (λ s grants. tables_itself s)
    (λ x xs s grants promise a mine e p. tables_then s _ a.server (lease_tables by x.0 _ promise s) p)
    (λ x xs s grants at why. tables_itself s) items s []

fresh_tables : (by : Session) (dir : List ℕ) (o : Option ℕ) (a : Asking) → KeepsTables a.server (fresh_of by dir o a).server
fresh_tables by dir None a = tables_itself a.server
fresh_tables by dir (Some n) a = let q = lease_tables by (Life (child dir n)) Exclusive None a.server in record {
  me = q.me;
  txns = q.txns;
  leading = q.leading;
  ending = q.ending;
  prepared = q.prepared;
  locks = q.locks;
}

dir_tables : (by : Session) (dir : List ℕ) (b : Bool) (a : Asking) → KeepsTables a.server (fresh_in by dir b a).server
dir_tables by dir true a = fresh_tables by dir (fresh_number a.server.records dir (borne_numbers dir a.server.rows)) a
dir_tables by dir false a = tables_itself a.server

for_tables : (by : Session) (dir : Option (List ℕ)) (a : Asking) → KeepsTables a.server (fresh_for by dir a).server
for_tables by None a = tables_itself a.server
for_tables by (Some dir) a = elim (is_mine a.server dir) as
    (λ b. KeepsTables a.server (let z : Asking = cond b (fresh_in by dir (is_directory a.server.records dir) a)
    (record a { end = moved a.server dir }) in z).server) [
      | true ↦ dir_tables by dir (is_directory a.server.records dir) a
      | false ↦ tables_itself a.server
    ]

end_tables : (by : Session) (dir : Option (List ℕ)) (e : End) (a : Asking) → KeepsTables a.server (ask_fresh by dir e a).server
end_tables by dir end.All a = for_tables by dir a
end_tables by dir e a = tables_itself a.server

module _ (k : ℕ) (s : Server) (c : Cluster) where
  pub ask_leaves : (by : Session) (items : List (Field × LeaseKind)) (dir : Option (List ℕ))
      → LeavesLed k (event.FromClient by (Ask items dir)) s (ask_step by items dir s) c
  ask_leaves by items dir =
      let a : Asking = ask_from by items s [] in
      leaves_led k (event.FromClient by (Ask items dir)) s (ask_step by items dir s) c
      (tables_then s a.server (ask_fresh by dir a.end a).server (items_tables by items s) (end_tables by dir a.end a))
      (ap telling_of (asked_quiet k (asked_in by items dir s).end (asked_in by items dir s).server.rows)) refl

  -- ## Pairs

  pub renew_leaves : (by : Session) (pairs : List (List ℕ × LeaseNo))
      → LeavesLed k (event.FromClient by (Renew pairs)) s (renew_step by pairs s) c
  renew_leaves by pairs = leaves_led k (event.FromClient by (Renew pairs)) s (renew_step by pairs s) c
      (record {
        me = refl;
        txns = omega arith;
        leading = refl;
        ending = refl;
        prepared = refl;
        locks = locks_renewed (end_of s) (numbers_in (pairs_here s pairs)) s.rows;
      }) refl refl

  -- where no transaction has a row that goes back
  pub release_leaves : (by : Session) (pairs : List (List ℕ × LeaseNo))
      → ((n : LeaseNo) → In n (numbers_in (pairs_here s pairs)) → (r : Row) → In r s.rows → r.no ≡ n → r.lock ≡ None)
      → LeavesLed k (event.FromClient by (Release pairs)) s (release_step by pairs s) c
  release_leaves by pairs free = leaves_led k (event.FromClient by (Release pairs)) s (release_step by pairs s) c
      (record {
        me = refl;
        txns = omega arith;
        leading = refl;
        ending = refl;
        prepared = refl;
        locks = locks_released (numbers_in (pairs_here s pairs)) s.rows free;
      }) refl refl

  -- ## A log

  pub ship_leaves : (by : Session) (es : List Entry) → LeavesLed k (event.FromClient by (Ship es)) s (ship_step by es s) c
  ship_leaves by es = elim (list_all (λ (e : Entry). tells_its_effects e.op) es) as
      (λ b. LeavesLed k (event.FromClient by (Ship es)) s (cond b (shipped by (ship_from by es s [])) (strange s)) c) [
        | true ↦ leaves_led k (event.FromClient by (Ship es)) s (shipped by (ship_from by es s [])) c
            (subst (KeepsTables s) (sym (ships_leave by es s []))
            (record {
              me = refl;
              txns = omega arith;
              leading = refl;
              ending = refl;
              prepared = refl;
              locks = locks_itself s.rows;
            })) refl refl
        | false ↦ leaves_led k (event.FromClient by (Ship es)) s (strange s) c (tables_itself s) refl refl
      ]

  -- ## A turn, and leases that are asked back

  turned : (xs : List (List ℕ × Session)) → LeavesLed k event.Turn s (turn_over xs s) c
  turned [] = leaves_led k event.Turn s (turn_over [] s) c (tables_itself s) refl refl
  turned (x ∷ xs) =
      let r = reap_from (x ∷ xs) s [] [] in
      leaves_led k event.Turn s (turn_over (x ∷ xs) s) c
      (subst (KeepsTables s) (sym (reaps_leave (x ∷ xs) s [] []))
      (record { me = refl; txns = omega arith; leading = refl; ending = refl; prepared = refl; locks = locks_itself s.rows }))
      (ap telling_of (reaps_quiet k r.server.rows r.blockers)) refl

  pub turn_leaves : LeavesLed k event.Turn s (turn_step s) c
  turn_leaves = turned (lapsed_in s)

  pub recall_leaves : (field : Field) → LeavesLed k (event.Recall field) s (recall_step field s) c
  recall_leaves field = leaves_led k (event.Recall field) s (recall_step field s) c (tables_itself s)
      (ap telling_of (recalls_quiet k (recalled_on field s))) refl

  -- ## What is quiet

  pub quiet_leaves : (e : ServerEvent) (n : ServerNote) (ms : List (Peer × Msg)) (paths : PathTables) (asking : List (List ℕ)) (given : ℕ)
      → ArePathSends ms → comes_words k e c ≡ telling_of c.in_flight → LeavesLed k e s (path_stepped n ms paths asking given s) c
  quiet_leaves e n ms paths asking given sent taken = leaves_led k e s (path_stepped n ms paths asking given s) c
      (record { me = refl; txns = omega arith; leading = refl; ending = refl; prepared = refl; locks = locks_itself s.rows })
      (none_worded k ms sent) taken

  -- ## What moves

  moved_off : (prefix : List ℕ) (to : ℕ) (o : Option MoveError) → refusal_here prefix to s ≡ o
      → LeavesLed k (event.Move prefix to) s (move_at o prefix to s) c
  moved_off prefix to None e = leaves_led k (event.Move prefix to) s (hands_over prefix to s) c
      (record {
        me = refl;
        txns = omega arith;
        leading = refl;
        ending = refl;
        prepared = refl;
        locks = locks_left s.records s.rows s.map s.me prefix to (first_in s.map s.me prefix s.paths) e;
      }) refl refl
  moved_off prefix to (Some why) e = refused (λ (x : Stepped). LeavesLed k (event.Move prefix to) s x c) s
      (λ n ms paths asking given noted sent. quiet_leaves (event.Move prefix to) n ms paths asking given sent refl) why prefix to

  pub move_leaves : (prefix : List ℕ) (to : ℕ) → LeavesLed k (event.Move prefix to) s (move_step prefix to s) c
  move_leaves prefix to = moved_off prefix to (refusal_here prefix to s) refl

  -- ## What comes from another server

  no_word_taken : (from : ℕ) (m : PeerMsg) → Comes k from c m → word_in m ≡ None
      → comes_words k (event.FromPeer from m) c ≡ telling_of c.in_flight
  no_word_taken from m there none =
      not_heard (is_between from k) c.in_flight (record { from = from; to = k; message = m }) there none

  -- what is no word and not known
  pub strange_leaves : (from : ℕ) (m : PeerMsg) → Comes k from c m → word_in m ≡ None
      → LeavesLed k (event.FromPeer from m) s (strange s) c
  strange_leaves from m there none =
      leaves_led k (event.FromPeer from m) s (strange s) c (tables_itself s) refl (no_word_taken from m there none)

  pub path_leaves : (from : ℕ) (m : PeerMsg) → Comes k from c m → word_in m ≡ None → IsPathMessage m
      → LeavesLed k (event.FromPeer from m) s (peer_step from m s) c
  path_leaves from m there none is = each_message (λ (x : Stepped). LeavesLed k (event.FromPeer from m) s x c) s
      (λ n ms paths asking given noted sent. quiet_leaves (event.FromPeer from m) n ms paths asking given sent
      (no_word_taken from m there none)) from m is

  -- where no row that comes is locked
  pub parcel_leaves : (from : ℕ) (p : Parcel) → Comes k from c (peer.Parcel p)
      → ((r : Row) → In r p.rows → r.lock ≡ None)
      → LeavesLed k (event.FromPeer from (peer.Parcel p)) s (parcel_at (fits_here p s) p s) c
  parcel_leaves from p there free =
      elim (fits_here p s) as (λ b. LeavesLed k (event.FromPeer from (peer.Parcel p)) s (parcel_at b p s) c) [
        | true ↦ leaves_led k (event.FromPeer from (peer.Parcel p)) s (parcel_at true p s) c
            (record {
              me = refl;
              txns = omega arith;
              leading = refl;
              ending = refl;
              prepared = refl;
              locks = locks_with_rows p.rows s.rows free;
            }) refl (no_word_taken from (peer.Parcel p) there refl)
        | false ↦ strange_leaves from (peer.Parcel p) there refl
      ]

-- ## Every event

-- what goes back is no transaction's, and what comes is not
abbrev pub IsUnlocked : ServerEvent → Server → Type 0
IsUnlocked (event.FromClient by (Release pairs)) s = (n : LeaseNo) → In n (numbers_in (pairs_here s pairs)) → (r : Row) → In r s.rows
    → r.no ≡ n → r.lock ≡ None
IsUnlocked (event.FromPeer from (peer.Parcel p)) s = (r : Row) → In r p.rows → r.lock ≡ None
IsUnlocked e s = Unit {0}

pub event_leaves : (k : ℕ) (s : Server) (c : Cluster) (e : ServerEvent) → IsThere k e c → IsNoneOfLed e → IsUnlocked e s
    → LeavesLed k e s (event_step e s) c
event_leaves k s c (event.FromClient by (Ask items dir)) there none free = ask_leaves k s c by items dir
event_leaves k s c (event.FromClient by (Renew pairs)) there none free = renew_leaves k s c by pairs
event_leaves k s c (event.FromClient by (Release pairs)) there none free = release_leaves k s c by pairs free
event_leaves k s c (event.FromClient by (Ship es)) there none free = ship_leaves k s c by es
event_leaves k s c (event.FromClient by (Lead m)) there none free = absurd none
event_leaves k s c (event.FromPeer from (peer.Parcel p)) there none free = parcel_leaves k s c from p there free
event_leaves k s c (event.FromPeer from (peer.Prepare m)) there none free = absurd (cc none)
event_leaves k s c (event.FromPeer from (peer.Vote m)) there none free = absurd (cc none)
event_leaves k s c (event.FromPeer from (peer.Decide m)) there none free = absurd (cc none)
event_leaves k s c (event.FromPeer from (peer.Done m)) there none free = absurd (cc none)
event_leaves k s c (event.FromPeer from m) there none free = path_leaves k s c from m there none tt
event_leaves k s c event.Turn there none free = turn_leaves k s c
event_leaves k s c (event.Recall field) there none free = recall_leaves k s c field
event_leaves k s c (event.Move prefix to) there none free = move_leaves k s c prefix to

-- with the rows dropped that are over
pub step_leaves : (k now : ℕ) (s : Server) (c : Cluster) (e : ServerEvent) → IsThere k e c → IsNoneOfLed e → IsUnlocked e (begun now s)
    → LeavesLed k e s (step s now e) c
step_leaves k now s c e there none free =
    let q = event_leaves k (begun now s) c e there none free in
    let x : Stepped = step s now e in
    leaves_led k e s x c (tables_then s (begun now s) x.server (begun_tables now s)
    (record {
      me = q.me;
      txns = q.txns;
      leading = q.leading;
      ending = q.ending;
      prepared = q.prepared;
      locks = q.locks;
    })) q.words q.taken

pub begun_keeps_led : (k now : ℕ) (s : Server) (c : Cluster) → slice_get c.servers k ≡ Some s → LedHolds c → LedHolds (begun_at now k s c)
begun_keeps_led k now s c at held =
    let x : Stepped = only_noted note.Idle (begun now s) in
    let servers : List Server = slice_set c.servers k (begun now s) in
    let kept : LedHolds (after_step k event.Turn x c) =
    step_keeps_led k event.Turn s x c at held (leaves_led k event.Turn s x c (begun_tables now s) refl refl) in
    subst (λ xs. LedHolds (record { servers = servers; in_flight = c.in_flight; journal = xs; replied = c.replied; lines = c.lines }))
    (append-nil c.journal)
    (subst (λ xs. LedHolds (record { servers = servers; in_flight = xs; journal = c.journal ++ []; replied = c.replied; lines = c.lines }))
    (append-nil c.in_flight) kept)

-- ## Rows that go back

-- a session that asks for something else waits for no server to lead
pub asks_other : (lines : Session → Lines) (by : Session) (asked : List ClientMsg) (heard : List Answer) (m : ClientMsg) → In m asked
    → IsNoneOfLed (event.FromClient by m) → OneExchange (lines by).client (lines by).client.exchange asked heard → (n : ℕ) (d : Led)
    → IsLedBy lines by n d → ⊥
asks_other lines by asked heard m i none one n d h =
    elim (subst (λ (x : Option Exchange). OneExchange (lines by).client x asked heard) h.asked one) as (λ _. ⊥) [
      | inl q ↦ elim (subst (In m) q.asked i) as (λ _. ⊥) [
        | inl e ↦ other m none (subst (IsQuestion (Leads n)) (sym e) q.question)
        | inr z ↦ absurd z
      ]
      | inr q ↦ absurd (subst (In m) q.asked i)
    ]
  where
    other : (m : ClientMsg) → IsNoneOfLed (event.FromClient by m) → IsQuestion (Leads n) m → ⊥
    other (Ask items dir) none q = q
    other (Renew pairs) none q = q
    other (Release pairs) none q = q
    other (Ship es) none q = q
    other (Lead l) none q = none

module _ (k : ℕ) (c : Cluster) (s : Server) (at : slice_get c.servers k ≡ Some s) (held : LedHolds c) where
  -- a session that has a transaction waits for its server
  waits_for : (by : Session) (txn : TxnNo) → In txn (txns_of by c.servers) → (n : ℕ) × ((d : Led) × IsLedBy c.lines by n d)
  waits_for by txn i =
      let q = In_some (txns_at by) txn c.servers i in
      elim (In-append txn (leads_at by q.0) (ends_at by q.0) q.1.1) as (λ _. (n : ℕ) × ((d : Led) × IsLedBy c.lines by n d)) [
        | inl j ↦
            let r = In-map (λ (l : Leading). l.leader.txn) txn (filter (λ (l : Leading). l.leader.session.0 == by.0) (q.0).leading) j in
            let its = held.leading q.0 q.1.0 r.0 (In-filter (λ (l : Leading). l.leader.session.0 == by.0) r.0 (q.0).leading r.1.0) in
            let same : (r.0).leader.session ≡ by =
            one_session (r.0).leader.session by (passing (λ (l : Leading). l.leader.session.0 == by.0) (q.0).leading r.0 r.1.0) in
            ((q.0).me, (its.led, subst (λ z. IsLedBy c.lines z (q.0).me its.led) same its.client))
        | inr j ↦
            let r = In-map (λ (x : Ending). x.txn) txn (filter (λ (x : Ending). x.session.0 == by.0) (q.0).ending) j in
            let its = held.ending q.0 q.1.0 r.0 (In-filter (λ (x : Ending). x.session.0 == by.0) r.0 (q.0).ending r.1.0) in
            let same : (r.0).session ≡ by =
            one_session (r.0).session by (passing (λ (x : Ending). x.session.0 == by.0) (q.0).ending r.0 r.1.0) in
            ((q.0).me, (its.led, subst (λ z. IsLedBy c.lines z (q.0).me its.led) same its.client))
      ]

  -- the rows of a session that waits for none are unlocked
  pub rows_unlocked_of : (by : Session) → ((n : ℕ) (d : Led) → IsLedBy c.lines by n d → ⊥) → (r : Row) → In r s.rows → r.session ≡ by
      → r.lock ≡ None
  rows_unlocked_of by none r i own = elim r.lock as (λ o. r.lock ≡ o → o ≡ None) [
    | None ↦ λ e. refl
    | Some txn ↦ λ e. let q = waits_for r.session txn (lock_txn c held s k at r txn i e) in absurd
        (none q.0 q.1.0 (subst (λ z. IsLedBy c.lines z q.0 q.1.0) own q.1.1))
  ] refl

  -- so are those that a session gives back, where they are its own
  pub gives_unlocked : (by : Session) (pairs : List (List ℕ × LeaseNo)) → ((n : ℕ) (d : Led) → IsLedBy c.lines by n d → ⊥)
      → ((n : LeaseNo) → In n (numbers_in (pairs_here s pairs)) → (r : Row) → In r s.rows → r.no ≡ n → r.session ≡ by)
      → IsUnlocked (event.FromClient by (Release pairs)) s
  gives_unlocked by pairs none its n i r j e = rows_unlocked_of by none r j (its n i r j e)
