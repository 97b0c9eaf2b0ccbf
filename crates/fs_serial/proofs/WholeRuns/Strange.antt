-- Nothing that comes to a server is strange: no question, no parcel, no word of a transaction, and no message of path leases.
use mathlib.Core.Path.{fun_ext}
use Rattle.std.proofs.Common.{◌≡◌, ℕ, ◌≤◌, max, true, List, [], ◌∷◌, cond, sym, subst}
use Rattle.std.specs.Prelude.{◌≢◌, Option, Some, None, slice_get}
use Rattle.std.specs.List.{list_all}
use Rattle.fs_ident.specs.In.{In}
use Rattle.fs_ident.specs.declared.actor.Session.{Session}
use Rattle.fs_ident.proofs.Passing.{found}
use Rattle.fs_ident.proofs.Standing.{In-front, In-mapped}
use Rattle.fs_field.specs.Conflict.{Selves}
use Rattle.fs_moderows.specs.Kept.{KeptPromises}
use Rattle.fs_msg.specs.declared.client_msg.ClientMsg.{ClientMsg}
use Rattle.fs_msg.specs.declared.client_msg.ClientMsg.TheVariants.{Ask, Renew, Release, Ship, Lead}
use Rattle.fs_msg.specs.declared.entry.Entry.{Entry}
use Rattle.fs_msg.specs.declared.peer_msg.PeerMsg.{PeerMsg}
use Rattle.fs_msg.specs.declared.peer_msg.PeerMsg.TheVariants as peer
use Rattle.fs_msg.specs.declared.server_note.ServerNote.TheVariants.{Strange}
use Rattle.fs_parcel.specs.declared.error.MoveError.{MoveError}
use Rattle.fs_parcel.specs.declared.error.MoveError.TheVariants as move
use Rattle.fs_record.specs.Effects.{tells_its_effects}
use Rattle.fs_server.proofs.Splitting.{commit_splits}
use Rattle.fs_server.specs.Moves.{fits_here, move_at, parcel_at}
use Rattle.fs_server.specs.Reaps.{lapsed_in, turn_over}
use Rattle.fs_server.specs.Server.{begun, strange}
use Rattle.fs_server.specs.Ships.{ship_from, shipped}
use Rattle.fs_server.specs.Step.{event_step, message_step, step}
use Rattle.fs_server.specs.declared.event.ServerEvent.{ServerEvent}
use Rattle.fs_server.specs.declared.event.ServerEvent.TheVariants as event
use Rattle.fs_server.specs.declared.state.Server.{Server}
use Rattle.fs_serial.proofs.Transactions.AwaitedWords.{words_awaited}
use Rattle.fs_serial.proofs.WholeRuns.LedQuestions.{lead_noted}
use Rattle.fs_serial.specs.Cluster.{Cluster, IsThere, is_with}
use Rattle.fs_serial.specs.Decided.{WorldStands}
use Rattle.fs_serial.specs.Owed.{ends_in, taken_leads}
use Rattle.fs_serial.specs.Refusals.{rows_in}
use Rattle.fs_serial.specs.Runs.{records_in}
use Rattle.fs_serial.specs.Seen.{ClusterHolds, counts_of, with_all, world_of}
use Rattle.fs_serial.specs.Sight.{count_with}
use Rattle.fs_serial.specs.Words.{decided_in}
use Rattle.fs_serial.proofs.DecidedEffects.GrantsPast.{selves_alike}
use Rattle.fs_serial.proofs.Lists.SetAt.{get_here}
use Rattle.fs_serial.proofs.Lists.Traffic.{messages}
use Rattle.fs_serial.proofs.Moves.Arriving.{parcel_stands}
use Rattle.fs_serial.proofs.Moves.ParcelFits.{RowsStand}
use Rattle.fs_serial.proofs.Moves.PathSteps.{refusal_here}
use Rattle.fs_serial.specs.Paths.{PathsHold}
use Rattle.fs_serial.proofs.Paths.EventsLeave.{begun_paths}
use Rattle.fs_serial.proofs.Paths.Messages.{none_strange as none_of_paths}
use Rattle.fs_serial.proofs.OneServer.ServerEvents.{all_plain}
use Rattle.fs_serial.proofs.Returns.Lapsing.{begun_at, there_begun}
use Rattle.fs_serial.proofs.Transactions.OtherSteps.{begins_stands}
use Rattle.fs_serial.proofs.Transactions.StandsAfter.{view}

over_note : (xs : List (List ℕ × Session)) (s : Server) → (turn_over xs s).out.note ≢ Strange
over_note [] s e = absurd (cc)
over_note (x ∷ xs) s e = absurd (cc)

moves_note : (o : Option MoveError) (prefix : List ℕ) (to : ℕ) (s : Server) → (move_at o prefix to s).out.note ≢ Strange
moves_note None prefix to s e = absurd (cc)
moves_note (Some (move.Paths number)) prefix to s e = absurd (cc e)
moves_note (Some why) prefix to s e = absurd (cc e)

log_note : (by : Session) (entries : List Entry) (s : Server) → list_all (λ (e : Entry). tells_its_effects e.op) entries ≡ true
    → (message_step by (Ship entries) s).out.note ≢ Strange
log_note by entries s plain =
    subst (λ b. (cond b (shipped by (ship_from by entries s [])) (strange s)).out.note ≢ Strange) (sym plain) (λ e. absurd (cc))

-- a server that has begun
module _ (skew greatest k : ℕ) (c : Cluster) (s : Server) (at : slice_get c.servers k ≡ Some s) (h : ClusterHolds skew greatest c)
    (paths : PathsHold c) where
  now : WorldStands greatest (world_of s c)
  now = view skew greatest k c s at h

  message_note : (by : Session) (m : ClientMsg) → IsThere k (event.FromClient by m) c → (message_step by m s).out.note ≢ Strange
  message_note by (Ask items dir) there = λ e. absurd (cc)
  message_note by (Renew pairs) there = λ e. absurd (cc)
  message_note by (Release pairs) there = λ e. absurd (cc)
  message_note by (Lead m) there =
      lead_noted skew greatest k c s at h commit_splits by m there
  message_note by (Ship entries) there =
      let coming : In (Ship entries) (ends_in c by).up =
      In-front (Ship entries) (messages (c.lines by).up) (taken_leads by (c.lines by).client.led c.servers)
      (In-mapped (λ (n : ℕ × ClientMsg). n.1) (k, Ship entries) (c.lines by).up
      (found (is_with k) (c.lines by).up (k, Ship entries) there).0) in
      log_note by entries s (all_plain greatest (world_of s c) by entries coming now.0)

  rows_stand : RowsStand (count_with s.me s.given (counts_of c.servers).given) (records_in c) (rows_in c)
  rows_stand = record {
    apart = now.0.all.servers.apart;
    promises = subst (λ (f : Selves). KeptPromises f (rows_in c)) (fun_ext (selves_alike (decided_in c) (with_all s c) c.journal now.1.all))
        now.0.all.servers.promises;
    counted = now.0.all.kept.counted;
    given = now.0.all.kept.given;
  }

  peer_note : (from : ℕ) (m : PeerMsg) → IsThere k (event.FromPeer from m) c → (event_step (event.FromPeer from m) s).out.note ≢ Strange
  peer_note from (peer.Parcel p) there =
      let fits : fits_here p s ≡ true = parcel_stands k from c s p at h.places there (counts_of c.servers) rows_stand in
      subst (λ b. (parcel_at b p s).out.note ≢ Strange) (sym fits) (λ e. absurd (cc))
  peer_note from (peer.Prepare m) there = words_awaited k from c s at (peer.Prepare m) there h.led (λ e. absurd (cc))
  peer_note from (peer.Vote m) there = words_awaited k from c s at (peer.Vote m) there h.led (λ e. absurd (cc))
  peer_note from (peer.Decide m) there = words_awaited k from c s at (peer.Decide m) there h.led (λ e. absurd (cc))
  peer_note from (peer.Done m) there = words_awaited k from c s at (peer.Done m) there h.led (λ e. absurd (cc))
  peer_note from m there = none_of_paths c k from s m paths at there tt

  event_note : (e : ServerEvent) → IsThere k e c → (event_step e s).out.note ≢ Strange
  event_note (event.FromClient by m) there = message_note by m there
  event_note (event.FromPeer from m) there = peer_note from m there
  event_note event.Turn there = over_note (lapsed_in s) s
  event_note (event.Recall field) there = λ e. absurd (cc)
  event_note (event.Move prefix to) there = moves_note (refusal_here prefix to s) prefix to s

pub none_strange : (skew greatest now k : ℕ) (e : ServerEvent) (s : Server) (c : Cluster) → slice_get c.servers k ≡ Some s
    → max s.last now ≤ greatest → IsThere k e c → ClusterHolds skew greatest c → PathsHold c → (step s now e).out.note ≢ Strange
none_strange skew greatest now k e s c at before there h paths =
    event_note skew greatest k (begun_at now k s c) (begun now s) (get_here c.servers k s (begun now s) at)
    (begins_stands skew greatest now k s c at before h) (begun_paths now k s c at paths) e (there_begun now k s e c there)
