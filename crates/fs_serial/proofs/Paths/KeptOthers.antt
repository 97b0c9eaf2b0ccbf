-- Every event of a server that is no word of a transaction, nor a question to lead one: all servers keep what they have to keep.
use Rattle.std.proofs.Common.{◌≡◌, ℕ, List, ◌++◌, map, refl, sym, ap, ap₂, subst, inl}
use Rattle.std.specs.Prelude.{Some, slice_get}
use Rattle.std.specs.List.{flat_map}
use Rattle.fs_ident.specs.In.{In}
use Rattle.fs_ident.specs.declared.actor.Session.{Session}
use Rattle.fs_ident.proofs.Passing.{found}
use Rattle.fs_ident.proofs.Standing.{In-front, In-got, In-mapped}
use Rattle.fs_field.specs.declared.field.Field.{Field}
use Rattle.fs_msg.specs.declared.client_msg.ClientMsg.{ClientMsg}
use Rattle.fs_msg.specs.declared.client_msg.ClientMsg.TheVariants.{Ask, Renew, Release, Ship, Lead}
use Rattle.fs_msg.specs.declared.peer_msg.PeerMsg.{PeerMsg}
use Rattle.fs_msg.specs.declared.peer_msg.PeerMsg.TheVariants as peer
use Rattle.fs_msg.specs.declared.server_note.ServerNote.TheVariants as note
use Rattle.fs_path.specs.Tables.{PathTables}
use Rattle.fs_record.specs.Records.{RecordMap}
use Rattle.fs_record.specs.declared.parcel.Parcel.{Parcel}
use Rattle.fs_server.specs.Moves.{installed, parcel_at, peer_step}
use Rattle.fs_server.specs.Reaps.{lapsed_in, turn_over, turn_step}
use Rattle.fs_server.specs.Server.{Stepped, only_noted}
use Rattle.fs_server.specs.Step.{event_step}
use Rattle.fs_server.specs.declared.event.ServerEvent.{ServerEvent}
use Rattle.fs_server.specs.declared.event.ServerEvent.TheVariants as event
use Rattle.fs_server.specs.declared.state.Server.{Server}
use Rattle.fs_txn.specs.Grants.{Decided}
use Rattle.fs_txn.specs.Leading.{said_by}
use Rattle.fs_txn.specs.Ready.{agreed_of}
use Rattle.fs_txn.specs.Stages.{word_to}
use Rattle.fs_txn.specs.Stages.Word.{Decide}
use Rattle.fs_serial.specs.Cluster.{Cluster, IsThere, after_step, is_between, is_with}
use Rattle.fs_serial.specs.Decided.{WorldStands}
use Rattle.fs_serial.specs.KeptFiles.{FilesKept}
use Rattle.fs_serial.specs.Leading.{LeavesLed}
use Rattle.fs_serial.specs.PathLaws.{IsPathMessage}
use Rattle.fs_serial.specs.Owed.{ends_in, taken_leads}
use Rattle.fs_serial.specs.Runs.{records_in}
use Rattle.fs_serial.specs.Seen.{ClusterHolds, with_all, world_of}
use Rattle.fs_serial.specs.Words.{IsNoneOfLed, decided_in}
use Rattle.fs_serial.specs.World.{IsOther, World}
use Rattle.fs_serial.proofs.Lists.Traffic.{messages}
use Rattle.fs_serial.proofs.Moves.Arriving.{arriving_same}
use Rattle.fs_serial.proofs.Moves.KeptPaths.{IsOffPaths, event_paths}
use Rattle.fs_serial.proofs.Moves.Leaving.{move_same}
use Rattle.fs_serial.proofs.Moves.PathSteps.{each_message, no_parcel, refusal_here}
use Rattle.fs_serial.proofs.Moves.QuietSteps.{quiet_same}
use Rattle.fs_serial.proofs.OneServer.SameStep.{IsSameStep, begun_in, turn_same}
use Rattle.fs_serial.proofs.Paths.KeptAfter.{kept_after, modes_still, tells_still}
use Rattle.fs_serial.proofs.Paths.KeptFrozen.{message_frozen, move_frozen}
use Rattle.fs_serial.proofs.Paths.KeptHere.{keeps_alike}
use Rattle.fs_serial.proofs.Lists.Journals.{made_kept}
use Rattle.fs_serial.proofs.Paths.KeptPlaces.{PlaceLeft, left_alike}
use Rattle.fs_serial.proofs.Paths.KeptQuiet.{led_still, told_before}
use Rattle.fs_serial.proofs.Paths.PlacesLeft.{AllLeft, asked_left, turn_left}
use Rattle.fs_serial.proofs.Transactions.LeavesLed.{path_leaves}
use Rattle.fs_serial.proofs.Transactions.OtherEvents.{other_leaves, parcel_fits}
use Rattle.fs_serial.proofs.Transactions.OthersKeep.{step_keeps_led}
use Rattle.fs_serial.proofs.Transactions.PlacesAfter.{word_taken}
use Rattle.fs_serial.proofs.Transactions.SeenMeanwhile.{decided_after}
use Rattle.fs_serial.proofs.Transactions.StandsAfter.{view}

module _ (skew greatest k : ℕ) (c : Cluster) (s : Server) (at : slice_get c.servers k ≡ Some s) (h : ClusterHolds skew greatest c)
    (f : FilesKept c) where
  abbrev here : In s c.servers
  here = In-got c.servers k s at

  abbrev w : World
  w = world_of s c

  now : WorldStands greatest w
  now = view skew greatest k c s at h

  -- the server's tables stay, and the places for which effects are on their way
  pub stepped_kept : (e : ServerEvent) (x : Stepped) → LeavesLed k e s x c → x.server.paths.frozen ≡ s.paths.frozen
      → ((d : Decided) → In d (decided_in c) → PlaceLeft (records_in c) (records_in (after_step k e x c)) d.effect)
      → FilesKept (after_step k e x c)
  stepped_kept e x leaves frozen left = kept_after k s x.server c (after_step k e x c) at f (record {
    servers = refl;
    here = keeps_alike s x.server (f.here s here)
        (ap₂ (λ ps ys. map agreed_of ps ++ ys) leaves.prepared (ap₂ (λ n ls. flat_map (said_by n) ls) leaves.me leaves.leading)) frozen;
    prepared = λ y i. inl (subst (In y) leaves.prepared i);
    told = tells_still c (after_step k e x c) f (step_keeps_led k e s x c at h.led leaves)
        (told_before k c s at e x (λ key place effects i. subst (In (word_to key place (Decide effects))) leaves.words i))
        (λ d i. left d (subst (In d) (decided_after k e s x c at leaves) i)) (made_kept c.journal x.out.admitted);
    clients = led_still k c s at e x;
    modes = modes_still c s x.server here f leaves.leading;
  })

  -- the step is that of the server that has all
  same_left : (e : ServerEvent) (small big : Stepped) → IsSameStep k e s small big c → AllLeft (decided_in c) (with_all s c) big.server
      → (d : Decided) → In d (decided_in c) → PlaceLeft (records_in c) (records_in (after_step k e small c)) d.effect
  same_left e small big same left d i =
      subst (λ (n : RecordMap). PlaceLeft (records_in c) n d.effect) (ap (λ (t : Server). t.records) same.server) (left d i)

  off_frozen : (e : ServerEvent) → IsNoneOfLed e → IsOffPaths e → (event_step e s).server.paths.frozen ≡ s.paths.frozen
  off_frozen e none off = ap (λ (t : PathTables). t.frozen) (event_paths e s none off)

  asked_kept : (by : Session) (m : ClientMsg) → IsOther (event.FromClient by m) → IsThere k (event.FromClient by m) c
      → IsNoneOfLed (event.FromClient by m)
      → FilesKept (after_step k (event.FromClient by m) (event_step (event.FromClient by m) s) c)
  asked_kept by m other there none =
      let e : ServerEvent = event.FromClient by m in
      let coming : In m (ends_in c by).up = In-front m (messages (c.lines by).up) (taken_leads by (c.lines by).client.led c.servers)
      (In-mapped (λ (n : ℕ × ClientMsg). n.1) (k, m) (c.lines by).up (found (is_with k) (c.lines by).up (k, m) there).0) in
      stepped_kept e (event_step e s) (other_leaves skew greatest k c s at h e there none) (off_frozen e none tt)
      (same_left e (event_step e s) (event_step e (with_all s c))
      (begun_in greatest k c s e at h.places (decided_in c) (ends_in c) now.0 coming other (λ z. absurd (cc z)))
      (asked_left greatest w by m now.0 now.1 other coming))

  turn_kept : FilesKept (after_step k event.Turn (event_step event.Turn s) c)
  turn_kept =
      stepped_kept event.Turn (turn_step s) (other_leaves skew greatest k c s at h event.Turn tt tt) (off_frozen event.Turn tt tt)
      (same_left event.Turn (turn_step s) (turn_over (lapsed_in s) (with_all s c)) (turn_same k c s at h.places)
      (turn_left (decided_in c) (lapsed_in s) (with_all s c)))

  recall_kept : (field : Field) → FilesKept (after_step k (event.Recall field) (event_step (event.Recall field) s) c)
  recall_kept field =
      let e : ServerEvent = event.Recall field in
      stepped_kept e (event_step e s) (other_leaves skew greatest k c s at h e tt tt) (off_frozen e tt tt)
      (same_left e (event_step e s) (event_step e (with_all s c))
      (begun_in greatest k c s e at h.places (decided_in c) (ends_in c) now.0 tt tt (λ z. absurd (cc z)))
      (λ d i. left_alike (records_in c) (records_in c) d.effect refl))

  move_kept : (prefix : List ℕ) (to : ℕ) → IsThere k (event.Move prefix to) c
      → FilesKept (after_step k (event.Move prefix to) (event_step (event.Move prefix to) s) c)
  move_kept prefix to there =
      let e : ServerEvent = event.Move prefix to in
      stepped_kept e (event_step e s) (other_leaves skew greatest k c s at h e there tt)
      (move_frozen (refusal_here prefix to s) prefix to s)
      (λ d i. left_alike (records_in c) (records_in (after_step k e (event_step e s) c)) d.effect (move_same k c s prefix to at h.places).1)

  parcel_kept : (from : ℕ) (p : Parcel) → IsThere k (event.FromPeer from (peer.Parcel p)) c
      → FilesKept (after_step k (event.FromPeer from (peer.Parcel p)) (event_step (event.FromPeer from (peer.Parcel p)) s) c)
  parcel_kept from p there =
      let e : ServerEvent = event.FromPeer from (peer.Parcel p) in
      let x : Stepped = only_noted (note.Installs p.prefix) (installed p s) in
      let is : x ≡ event_step e s = ap (λ b. parcel_at b p s) (sym (parcel_fits skew greatest k c s at h from p there)) in
      subst (λ (y : Stepped). FilesKept (after_step k e y c)) is
      (stepped_kept e x
      (subst (λ (y : Stepped). LeavesLed k e s y c) (sym is) (other_leaves skew greatest k c s at h e there refl)) refl
      (λ d i. left_alike (records_in c) (records_in (after_step k e x c)) d.effect (arriving_same k from c s p at h.places there).1))

  -- a message of path leases
  path_kept : (from : ℕ) (m : PeerMsg) → IsPathMessage m → IsThere k (event.FromPeer from m) c → IsNoneOfLed (event.FromPeer from m)
      → FilesKept (after_step k (event.FromPeer from m) (peer_step from m s) c)
  path_kept from m is there none =
      let e : ServerEvent = event.FromPeer from m in
      let still = word_taken (is_between from k) c.in_flight (record { from = from; to = k; message = m }) there (no_parcel m is) in
      let same : records_in (after_step k e (peer_step from m s) c) ≡ records_in c =
      each_message (λ (x : Stepped). records_in (after_step k e x c) ≡ records_in c) s
      (λ n ms paths asking given noted sent. (quiet_same k c s at e still n ms paths asking given sent).1) from m is in
      stepped_kept e (peer_step from m s) (path_leaves k s c from m there none is) (message_frozen from m s is)
      (λ d i. left_alike (records_in c) (records_in (after_step k e (peer_step from m s) c)) d.effect same)

  by_peer : (from : ℕ) (m : PeerMsg) → IsThere k (event.FromPeer from m) c → IsNoneOfLed (event.FromPeer from m)
      → FilesKept (after_step k (event.FromPeer from m) (event_step (event.FromPeer from m) s) c)
  by_peer from (peer.Parcel p) there none = parcel_kept from p there
  by_peer from (peer.Prepare m) there none = absurd (cc none)
  by_peer from (peer.Vote m) there none = absurd (cc none)
  by_peer from (peer.Decide m) there none = absurd (cc none)
  by_peer from (peer.Done m) there none = absurd (cc none)
  by_peer from (peer.PathAsk file dir) there none = path_kept from (peer.PathAsk file dir) tt there none
  by_peer from (peer.PathGrant number file path) there none = path_kept from (peer.PathGrant number file path) tt there none
  by_peer from (peer.PathNo file w) there none = path_kept from (peer.PathNo file w) tt there none
  by_peer from (peer.PathRecall number) there none = path_kept from (peer.PathRecall number) tt there none
  by_peer from (peer.PathRelease number) there none = path_kept from (peer.PathRelease number) tt there none

  by_client : (by : Session) (m : ClientMsg) → IsThere k (event.FromClient by m) c → IsNoneOfLed (event.FromClient by m)
      → FilesKept (after_step k (event.FromClient by m) (event_step (event.FromClient by m) s) c)
  by_client by (Lead m) there none = absurd none
  by_client by (Ask items dir) there none = asked_kept by (Ask items dir) tt there none
  by_client by (Renew pairs) there none = asked_kept by (Renew pairs) tt there none
  by_client by (Release pairs) there none = asked_kept by (Release pairs) tt there none
  by_client by (Ship entries) there none = asked_kept by (Ship entries) tt there none

  pub other_kept : (e : ServerEvent) → IsThere k e c → IsNoneOfLed e → FilesKept (after_step k e (event_step e s) c)
  other_kept (event.FromClient by m) there none = by_client by m there none
  other_kept (event.FromPeer from m) there none = by_peer from m there none
  other_kept event.Turn there none = turn_kept
  other_kept (event.Recall field) there none = recall_kept field
  other_kept (event.Move prefix to) there none = move_kept prefix to there
