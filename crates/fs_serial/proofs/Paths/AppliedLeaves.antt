-- A part that is told what was decided leaves path leases as they are: what it removes is on none.
use Rattle.std.proofs.Common.{◌≡◌, ◌∙◌, Bool, true, false, List, ℕ, refl, sym, ap, subst, cond, inl}
use Rattle.std.specs.Prelude.{◌⊎◌, Some, None, is_some, slice_get}
use Rattle.std.specs.FinMap.{get}
use Rattle.fs_ident.specs.In.{In}
use Rattle.fs_ident.proofs.Passing.{found}
use Rattle.fs_ident.proofs.Standing.{In-got}
use Rattle.fs_field.specs.declared.effect.Effect.{Effect}
use Rattle.fs_field.specs.declared.effect.Effect.TheVariants.{SetChild, SetParent, NewNode, RemoveNode, AddHandle, RemoveHandle, SetInfo}
use Rattle.fs_model.specs.Sound.{IsTree}
use Rattle.fs_msg.specs.declared.decide.Decide.{Decide as DecideMsg}
use Rattle.fs_msg.specs.declared.peer_msg.PeerMsg.{PeerMsg}
use Rattle.fs_msg.specs.declared.peer_msg.PeerMsg.TheVariants as peer
use Rattle.fs_path.specs.Leases.{PathLease}
use Rattle.fs_path.specs.Tables.{through}
use Rattle.fs_record.specs.Records.{RecordMap, nodes_of}
use Rattle.fs_server.specs.Follows.{applies, decide_step, paths_freed}
use Rattle.fs_server.specs.PathSteps.{dir_here}
use Rattle.fs_server.specs.Server.{Stepped}
use Rattle.fs_server.specs.declared.event.ServerEvent.{ServerEvent}
use Rattle.fs_server.specs.declared.event.ServerEvent.TheVariants as event
use Rattle.fs_server.specs.declared.state.Server.{Server}
use Rattle.fs_txn.specs.Decided.{IsDecided}
use Rattle.fs_txn.specs.Ready.{is_awaited, without_prepared}
use Rattle.fs_txn.proofs.Waiting.{in_their_order}
use Rattle.fs_serial.specs.Cluster.{Cluster, InFlight, IsThere, after_step, is_between}
use Rattle.fs_serial.specs.Joined.{effects_by, effects_on_way}
use Rattle.fs_serial.specs.Leading.{LedHolds}
use Rattle.fs_serial.specs.Paths.{IsOnPath, LeavesPaths, PathsHold, has_record, is_kept}
use Rattle.fs_serial.specs.Runs.{held_by}
use Rattle.fs_serial.specs.Seen.{ClusterHolds}
use Rattle.fs_serial.specs.Words.{key_of}
use Rattle.fs_serial.proofs.DecidedEffects.DecideSeen.{told, unseen}
use Rattle.fs_serial.proofs.DecidedEffects.HeldSeen.{held_same}
use Rattle.fs_serial.proofs.Moves.KeptPaths.{SamePaths, left_alike}
use Rattle.fs_serial.proofs.Paths.Alike.{on_path}
use Rattle.fs_serial.proofs.Paths.KeptOff.{freed_less, with_paths}
use Rattle.fs_serial.proofs.Paths.LivingPaths.{removed_on_none}
use Rattle.fs_serial.proofs.Paths.MovedFiles.{LeavesRecord, records_left}
use Rattle.fs_serial.proofs.Paths.Tokens.{nothing_made}
use Rattle.fs_serial.proofs.Paths.Untold.{quiet_one, quiet_silent, silent_sent, silent_taken}
use Rattle.fs_serial.proofs.Transactions.AwaitedWords.{decide_awaited}
use Rattle.fs_serial.proofs.Transactions.Tables.{In_all}
use Rattle.fs_serial.proofs.WholeRuns.LedKept.{all_keep_led}

module _ (skew greatest k from : ℕ) (c : Cluster) (s : Server) (at : slice_get c.servers k ≡ Some s) (h : ClusterHolds skew greatest c)
    (p : PathsHold c) (m : DecideMsg) (comes : IsThere k (event.FromPeer from (peer.Decide m)) c) where
  abbrev e : ServerEvent
  e = event.FromPeer from (peer.Decide m)

  abbrev x : Stepped
  x = applies from m s

  abbrev then : Cluster
  then = after_step k e x c

  here : In s c.servers
  here = In-got c.servers k s at

  led_then : LedHolds then
  led_then = subst (λ (z : Stepped). LedHolds (after_step k e z c)) (decide_awaited k from c s at h.led m comes)
      ((all_keep_led skew greatest k c s at h).decided from m comes)

  space : held_by then ≡ held_by c
  space = held_same then led_then ∙ unseen k from skew greatest c s at h m comes ∙ sym (held_same c h.led)

  tree : IsTree (nodes_of (held_by c))
  tree = subst (λ (r : RecordMap). IsTree (nodes_of r)) (sym (held_same c h.led)) (h.parts s here).0.all.kept.sound.space.tree

  -- ## What it applies

  on_way : (y : Effect) → In y m.effects → In y (effects_on_way c.in_flight)
  on_way y i =
      let it : InFlight = record { from = from; to = k; message = peer.Decide m } in
      In_all (λ (f : InFlight). effects_by f.message) y it c.in_flight (found (is_between from k) c.in_flight it comes).0 i

  decided : (y : Effect) → In y m.effects → IsDecided y
  decided y i = (h.led.told (key_of m.txn m.number) k m.effects (told k from skew greatest c s at h m comes) y i).decided

  leaves : (f : List ℕ) → IsOnPath c.servers f → (y : Effect) → In y m.effects → LeavesRecord f y
  leaves f on y i = by y (on_way y i) (decided y i)
    where
      by : (y : Effect) → In y (effects_on_way c.in_flight) → IsDecided y → LeavesRecord f y
      by (RemoveNode g) j d = λ q. removed_on_none c h.led p tree g j (subst (IsOnPath c.servers) (sym q) on)
      by (SetChild a b z) j d = tt
      by (SetParent a b z) j d = tt
      by (NewNode a b z n) j d = absurd d
      by (AddHandle a b z n) j d = tt
      by (RemoveHandle a b z) j d = tt
      by (SetInfo a b z) j d = tt

  record_stays : (l : PathLease) (f : List ℕ) → In l s.paths.issued → In f l.path → has_record x.server f ≡ has_record s f
  record_stays l f i among =
      ap (λ (r : RecordMap). is_some (get r f)) (in_their_order s.records m.effects decided)
      ∙ records_left s.records f m.effects (leaves f (on_path c s l f here i among))

  -- ## What it keeps

  abbrev waiting : Bool
  waiting = is_awaited m.txn (without_prepared m.txn m.number s.prepared)

  same : SamePaths s.paths x.server.paths
  same = left_alike waiting m.txn s.paths

  kept : (f : List ℕ) → is_kept x.server f ≡ true → (is_kept s f ≡ true) ⊎ (through f s.paths.issued ≡ None)
  kept f is = elim waiting as (λ b. is_kept (with_paths (cond b s.paths (paths_freed m.txn s.paths)) s) f ≡ true
      → (is_kept s f ≡ true) ⊎ (through f s.paths.issued ≡ None)) [
        | true ↦ λ z. inl z
        | false ↦ λ z. inl (freed_less s m.txn f z)
      ] is

  pub applied_leaves : LeavesPaths k e s x c then
  applied_leaves = record {
    me = refl;
    issued = same.issued;
    held = same.held;
    kept = kept;
    given = refl;
    sent =
        let done : PeerMsg = peer.Done (record { txn = m.txn; number = m.number }) in
        silent_sent then k x.out.send
        (quiet_silent x.out.send (quiet_one from done (record { path = tt; parcel = refl; effects = refl })));
    taken = silent_taken k from (peer.Decide m) c comes tt;
    journal = nothing_made c then refl;
    up = λ f on. ap (λ (r : RecordMap). dir_here r f) space;
    here = record_stays;
  }

  -- it is awaited
  pub decided_leaves : LeavesPaths k e s (decide_step from m s) c (after_step k e (decide_step from m s) c)
  decided_leaves = subst (λ (z : Stepped). LeavesPaths k e s z c (after_step k e z c)) (sym (decide_awaited k from c s at h.led m comes))
      applied_leaves
