-- Every event of a server that is no word of a transaction, nor a question to lead one, keeps all that holds of paths; so does the begin of
-- an event, and a question to lead an operation that is put off.
use Rattle.std.proofs.Common.{◌≡◌, ℕ, true, false, cond, List, [], ◌∷◌, ◌++◌, append-nil, refl, sym, ap, subst}
use Rattle.std.specs.Prelude.{None, Option, Some, is_some, slice_get, slice_set}
use Rattle.std.specs.List.{list_all}
use Rattle.fs_ident.specs.In.{In}
use Rattle.fs_ident.specs.declared.actor.Session.{Session}
use Rattle.fs_ident.specs.declared.kind.Kind.TheVariants.{Dir}
use Rattle.fs_ident.proofs.Passing.{found}
use Rattle.fs_ident.proofs.Standing.{In-front, In-got, In-mapped}
use Rattle.fs_field.specs.declared.field.Field.{Field}
use Rattle.fs_field.specs.declared.lease_kind.LeaseKind.{LeaseKind}
use Rattle.fs_ident.specs.declared.actor.LeaseNo.{LeaseNo}
use Rattle.fs_msg.specs.declared.client_msg.ClientMsg.{ClientMsg}
use Rattle.fs_msg.specs.declared.client_msg.ClientMsg.TheVariants.{Ask, Renew, Release, Ship, Lead}
use Rattle.fs_msg.specs.declared.entry.Entry.{Entry}
use Rattle.fs_msg.specs.declared.lead.Lead.{Lead as ToLead}
use Rattle.fs_msg.specs.declared.peer_msg.PeerMsg.{PeerMsg}
use Rattle.fs_msg.specs.declared.peer_msg.PeerMsg.TheVariants as peer
use Rattle.fs_msg.specs.declared.server_note.ServerNote.TheVariants as note
use Rattle.fs_record.specs.Effects.{tells_its_effects}
use Rattle.fs_record.specs.declared.led_end.Why.{Why}
use Rattle.fs_record.specs.declared.parcel.Parcel.{Parcel}
use Rattle.fs_server.specs.Asks.{asked_in}
use Rattle.fs_server.specs.Leads.{refuses}
use Rattle.fs_server.specs.Moves.{parcel_at}
use Rattle.fs_server.specs.Reaps.{lapsed_in, reap_from, turn_over, turn_step}
use Rattle.fs_server.specs.Server.{Stepped, begun, only_noted, strange}
use Rattle.fs_server.specs.Ships.{ship_from, ship_step, shipped}
use Rattle.fs_server.specs.Step.{event_step, recalled_on}
use Rattle.fs_server.specs.declared.event.ServerEvent.{ServerEvent}
use Rattle.fs_server.specs.declared.event.ServerEvent.TheVariants as event
use Rattle.fs_server.specs.declared.state.Server.{Server}
use Rattle.fs_serial.specs.Cluster.{Cluster, IsThere, after_step, in_flight_from, is_with}
use Rattle.fs_serial.specs.Fresh.{ByLog, made}
use Rattle.fs_serial.specs.Owed.{ends_in, taken_leads}
use Rattle.fs_serial.specs.Paths.{LeavesPaths, PathsHold, PathsStand}
use Rattle.fs_serial.specs.Seen.{ClusterHolds, world_of}
use Rattle.fs_serial.specs.Words.{IsNoneOfLed, word_in}
use Rattle.fs_serial.specs.World.{World}
use Rattle.fs_serial.proofs.Lists.Journals.{below_itself}
use Rattle.fs_serial.proofs.Lists.Traffic.{messages}
use Rattle.fs_serial.proofs.OneServer.Sim.{recalls_quiet}
use Rattle.fs_serial.proofs.OneServer.SimAsk.{asked_quiet}
use Rattle.fs_serial.proofs.OneServer.SimTurn.{reaps_quiet}
use Rattle.fs_serial.proofs.Paths.OffPaths.{LeavesFiles, leaves_itself, quiet_leaves}
use Rattle.fs_serial.proofs.Paths.QuestionsLeave.{AreOfOthers, ask_leaves, leaves_records, ship_leaves, turn_leaves}
use Rattle.fs_serial.proofs.Paths.Together.{installs_keep, messages_keep, moves_keep, others_keep}
use Rattle.fs_serial.proofs.Returns.Lapsing.{begun_at}
use Rattle.fs_serial.proofs.Transactions.OtherEvents.{parcel_fits}

-- ## What is told to sessions alone

log_quiet : (k : ℕ) (by : Session) (es : List Entry) (s : Server) → in_flight_from k (ship_step by es s).out.send ≡ []
log_quiet k by es s = elim (list_all (λ (e : Entry). tells_its_effects e.op) es) as
    (λ b. in_flight_from k (let x : Stepped = cond b (shipped by (ship_from by es s [])) (strange s) in x).out.send ≡ []) [
      | true ↦ refl
      | false ↦ refl
    ]

over_quiet : (k : ℕ) (xs : List (List ℕ × Session)) (s : Server) → in_flight_from k (turn_over xs s).out.send ≡ []
over_quiet k [] s = refl
over_quiet k (x ∷ xs) s = let r = reap_from (x ∷ xs) s [] [] in reaps_quiet k r.server.rows r.blockers

module _ (c : Cluster) (k : ℕ) (s : Server) (h : PathsHold c) (at : slice_get c.servers k ≡ Some s) where
  -- the event leaves paths alone
  abbrev pub Leaves : ServerEvent → Type 0
  Leaves e = LeavesPaths k e s (event_step e s) c (after_step k e (event_step e s) c)

  -- a session's question, where it is taken so
  asked : (by : Session) (m : ClientMsg) (x : Stepped) → in_flight_from k x.out.send ≡ [] → LeavesFiles c.journal s x.server
      → LeavesPaths k (event.FromClient by m) s x c (after_step k (event.FromClient by m) x c)
  asked by m x quiet leaves = quiet_leaves c k (event.FromClient by m) s x h at (λ fs. refl) quiet leaves

  pub asks_leave : (by : Session) (items : List (Field × LeaseKind)) (dir : Option (List ℕ)) → Leaves (event.FromClient by (Ask items dir))
  asks_leave by items dir = asked by (Ask items dir) _ (asked_quiet k (asked_in by items dir s).end (asked_in by items dir s).server.rows)
      (ask_leaves c.journal by items dir s)

  pub renews_leave : (by : Session) (pairs : List (List ℕ × LeaseNo)) → Leaves (event.FromClient by (Renew pairs))
  renews_leave by pairs = asked by (Renew pairs) _ refl (leaves_records c.journal s _ refl refl refl refl)

  pub releases_leave : (by : Session) (pairs : List (List ℕ × LeaseNo)) → Leaves (event.FromClient by (Release pairs))
  releases_leave by pairs = asked by (Release pairs) _ refl (leaves_records c.journal s _ refl refl refl refl)

  -- where none of its entries names a directory that was made
  pub ships_leave : (by : Session) (es : List Entry) → ((f : List ℕ) → made c.journal f ≡ Some Dir → AreOfOthers f es)
      → Leaves (event.FromClient by (Ship es))
  ships_leave by es others = asked by (Ship es) _ (log_quiet k by es s) (ship_leaves c.journal by es s others)

  pub turns_leave : LeavesPaths k event.Turn s (turn_step s) c (after_step k event.Turn (turn_step s) c)
  turns_leave = quiet_leaves c k event.Turn s (turn_step s) h at (λ fs. refl) (over_quiet k (lapsed_in s) s) (turn_leaves c.journal s)

  pub recalls_leave : (field : Field) → Leaves (event.Recall field)
  recalls_leave field = quiet_leaves c k (event.Recall field) s _ h at (λ fs. refl) (recalls_quiet k (recalled_on field s))
      (leaves_itself c.journal s)

  -- ## A question to lead an operation

  -- which is put off
  pub put_off_leaves : (by : Session) (m : ToLead) (w : Why)
      → LeavesPaths k (event.FromClient by (Lead m)) s (refuses by w s) c (after_step k (event.FromClient by (Lead m)) (refuses by w s) c)
  put_off_leaves by m w = asked by (Lead m) (refuses by w s) refl (leaves_itself c.journal s)

  -- or is none
  pub strange_lead_leaves : (by : Session) (m : ToLead)
      → LeavesPaths k (event.FromClient by (Lead m)) s (strange s) c (after_step k (event.FromClient by (Lead m)) (strange s) c)
  strange_lead_leaves by m = asked by (Lead m) (strange s) refl (leaves_itself c.journal s)

-- ## An event begins

pub begun_paths : (now k : ℕ) (s : Server) (c : Cluster) → slice_get c.servers k ≡ Some s → PathsHold c → PathsHold (begun_at now k s c)
begun_paths now k s c at h =
    let x : Stepped = only_noted note.Idle (begun now s) in
    let servers : List Server = slice_set c.servers k (begun now s) in
    let kept : PathsHold (after_step k event.Turn x c) =
    others_keep c k event.Turn s x h at (quiet_leaves c k event.Turn s x h at (λ fs. refl) refl
    (leaves_records c.journal s (begun now s) refl refl refl refl)) in
    subst (λ xs. PathsHold (record { servers = servers; in_flight = c.in_flight; journal = xs; replied = c.replied; lines = c.lines }))
    (append-nil c.journal)
    (subst (λ xs. PathsHold (record { servers = servers; in_flight = xs; journal = c.journal ++ []; replied = c.replied; lines = c.lines }))
    (append-nil c.in_flight) kept)

-- ## Every event

module _ (skew greatest k : ℕ) (c : Cluster) (s : Server) (at : slice_get c.servers k ≡ Some s) (h : ClusterHolds skew greatest c)
    (paths : PathsHold c) where
  -- what a session hands in names nothing that was made
  unmade : (by : Session) (es : List Entry) → IsThere k (event.FromClient by (Ship es)) c → (f : List ℕ) → made c.journal f ≡ Some Dir
      → AreOfOthers f es
  unmade by es there f is e i named =
      let w : World = world_of s c in
      let now = (h.parts s (In-got c.servers k s at)).0 in
      let coming : In (Ship es) (ends_in c by).up =
      In-front (Ship es) (messages (c.lines by).up) (taken_leads by (c.lines by).client.led c.servers)
      (In-mapped (λ (n : ℕ × ClientMsg). n.1) (k, Ship es) (c.lines by).up (found (is_with k) (c.lines by).up (k, Ship es) there).0) in
      let front = (now.exchanges by).front es coming in
      now.all.reserved.unmade by ByLog f f
      (record { entry = e; among = subst (In e) (sym front.log) (In-front e es front.rest i); named = named })
      (ap is_some is) (below_itself f)

  left_alone : (e : ServerEvent) → Leaves c k s paths at e → PathsHold (after_step k e (event_step e s) c)
  left_alone e leaves = others_keep c k e s (event_step e s) paths at leaves

  by_client : (by : Session) (m : ClientMsg) → IsThere k (event.FromClient by m) c → IsNoneOfLed (event.FromClient by m)
      → PathsHold (after_step k (event.FromClient by m) (event_step (event.FromClient by m) s) c)
  by_client by (Ask items dir) there none = left_alone (event.FromClient by (Ask items dir)) (asks_leave c k s paths at by items dir)
  by_client by (Renew pairs) there none = left_alone (event.FromClient by (Renew pairs)) (renews_leave c k s paths at by pairs)
  by_client by (Release pairs) there none = left_alone (event.FromClient by (Release pairs)) (releases_leave c k s paths at by pairs)
  by_client by (Ship es) there none = left_alone (event.FromClient by (Ship es)) (ships_leave c k s paths at by es (unmade by es there))
  by_client by (Lead m) there none = absurd none

  -- a parcel fits
  by_parcel : (from : ℕ) (p : Parcel) → IsThere k (event.FromPeer from (peer.Parcel p)) c
      → PathsHold (after_step k (event.FromPeer from (peer.Parcel p)) (event_step (event.FromPeer from (peer.Parcel p)) s) c)
  by_parcel from p there =
      let e : ServerEvent = event.FromPeer from (peer.Parcel p) in
      subst (λ b. PathsHold (after_step k e (parcel_at b p s) c)) (sym (parcel_fits skew greatest k c s at h from p there))
      (installs_keep c k from s p h.places paths at there)

  by_server : (from : ℕ) (m : PeerMsg) → PathsStand c → IsThere k (event.FromPeer from m) c → word_in m ≡ None
      → PathsHold (after_step k (event.FromPeer from m) (event_step (event.FromPeer from m) s) c)
  by_server from (peer.Parcel p) stand there none = by_parcel from p there
  by_server from (peer.Prepare m) stand there none = absurd (cc none)
  by_server from (peer.Vote m) stand there none = absurd (cc none)
  by_server from (peer.Decide m) stand there none = absurd (cc none)
  by_server from (peer.Done m) stand there none = absurd (cc none)
  by_server from m stand there none = messages_keep c k from s m stand paths at (paths.numbered k s at) there tt

  pub events_keep_paths : (e : ServerEvent) → PathsStand c → IsThere k e c → IsNoneOfLed e → PathsHold (after_step k e (event_step e s) c)
  events_keep_paths (event.FromClient by m) stand there none = by_client by m there none
  events_keep_paths (event.FromPeer from m) stand there none = by_server from m stand there none
  events_keep_paths event.Turn stand there none = left_alone event.Turn (turns_leave c k s paths at)
  events_keep_paths (event.Recall field) stand there none = left_alone (event.Recall field) (recalls_leave c k s paths at field)
  events_keep_paths (event.Move prefix to) stand there none = moves_keep c k to s prefix h.places paths at
