-- At the start no server leads anything, no word is on its way, and all that holds of a cluster holds.
use Rattle.std.proofs.Common.{◌≡◌, ◌≤◌, ◌++◌, ℕ, zero, suc, List, [], length, refl, sym, ap, ap₂, subst, arith}
use Rattle.std.specs.Prelude.{Option, Some, None, option_map, slice_get}
use Rattle.std.specs.List.{find}
use Rattle.fs_ident.specs.In.{In}
use Rattle.fs_ident.specs.declared.actor.Session.{Session}
use Rattle.fs_ident.specs.declared.actor.TxnNo.{TxnNo}
use Rattle.fs_ident.proofs.Standing.{In-got}
use Rattle.fs_msg.specs.declared.answer.Answer.{Answer}
use Rattle.fs_msg.specs.declared.client_msg.ClientMsg.{ClientMsg}
use Rattle.fs_server.specs.declared.state.Server.{Server}
use Rattle.fs_txn.specs.Leading.{ending_of, leading_of, stage_in}
use Rattle.fs_txn.specs.Locks.{LocksHold}
use Rattle.fs_txn.specs.Ready.{is_part}
use Rattle.fs_txn.specs.Stages.{IsStage, Key, Wanted, told_of}
use Rattle.fs_txn.specs.Stages.Stage.{Unknown}
use Rattle.fs_txn.specs.declared.ready.Ready.{Ready}
use Rattle.fs_serial.specs.Cluster.{Cluster, first_cluster}
use Rattle.fs_serial.specs.Decided.{WorldStands}
use Rattle.fs_serial.specs.Leading.{LedHolds}
use Rattle.fs_serial.specs.Owed.{ends_in, ends_of, owed_at, taken_at}
use Rattle.fs_serial.specs.Seen.{ClusterHolds, HasPeers, world_of}
use Rattle.fs_serial.specs.Words.{ended_in, ending_at, kept_at, leading_at, led_in, prepared_in, ready_at, said_at, stage_of_key, wanted_of}
use Rattle.fs_serial.specs.World.{Ends, WorldHolds}
use Rattle.fs_serial.proofs.DecidedEffects.Owing.{none_fits}
use Rattle.fs_serial.proofs.Lists.EachAt.{none_each}
use Rattle.fs_serial.proofs.WholeRuns.FirstCluster.{bare, bare_holds, each, first_places}
use Rattle.fs_serial.proofs.WholeRuns.Views.{alike_holds}

module _ (n skew term greatest : ℕ) where
  abbrev c : Cluster
  c = first_cluster (suc n) skew term

  -- ## No server has anything of transactions

  no_leading : (s : Server) → In s c.servers → s.leading ≡ []
  no_leading = each n skew term greatest (λ s. s.leading ≡ []) (λ k. refl)

  no_ending : (s : Server) → In s c.servers → s.ending ≡ []
  no_ending = each n skew term greatest (λ s. s.ending ≡ []) (λ k. refl)

  no_ready : (s : Server) → In s c.servers → s.prepared ≡ []
  no_ready = each n skew term greatest (λ s. s.prepared ≡ []) (λ k. refl)

  none_led : (txn : TxnNo) → led_in c.servers txn ≡ None
  none_led txn = at (slice_get c.servers txn.server) refl
    where
      at : (o : Option Server) → slice_get c.servers txn.server ≡ o → leading_of txn (leading_at o) ≡ None
      at None e = refl
      at (Some s) e = ap (leading_of txn) (no_leading s (In-got c.servers txn.server s e))

  none_ended : (txn : TxnNo) → ended_in c.servers txn ≡ None
  none_ended txn = at (slice_get c.servers txn.server) refl
    where
      at : (o : Option Server) → slice_get c.servers txn.server ≡ o → ending_of txn (ending_at o) ≡ None
      at None e = refl
      at (Some s) e = ap (ending_of txn) (no_ending s (In-got c.servers txn.server s e))

  none_ready : (k : ℕ) (key : Key) → prepared_in c.servers k key ≡ None
  none_ready k key = at (slice_get c.servers k) refl
    where
      at : (o : Option Server) → slice_get c.servers k ≡ o → option_map wanted_of (find (is_part key.txn key.part) (ready_at o)) ≡ None
      at None e = refl
      at (Some s) e = ap (λ (xs : List Ready). option_map wanted_of (find (is_part key.txn key.part) xs)) (no_ready s (In-got c.servers k s e))

  unknown : (key : Key) → stage_of_key c.servers key ≡ Unknown
  unknown key = ap₂ (stage_in key.part) (none_led key.txn) (none_ended key.txn)

  -- what would be asked for a part, if there were one
  nothing : Key → Wanted
  nothing key = record { session = record { 0 = 0 }; part = record { file = []; uses = []; freeze = None } }

  first_led : LedHolds c
  first_led = record {
    parts = nothing;
    stages = λ key. subst (λ st. IsStage key (nothing key) st (λ k. prepared_in c.servers k key) (told_of key [])) (sym (unknown key))
        (refl, λ k. none_ready k key);
    leading = λ s i l j. absurd (subst (In l) (no_leading s i) j);
    ending = λ s i x j. absurd (subst (In x) (no_ending s i) j);
    ready = λ s i x j. absurd (subst (In x) (no_ready s i) j);
    locks = each n skew term greatest (λ s. LocksHold s.rows (said_at s) (kept_at s))
        (λ k. record { locked = λ y i u j. absurd i; used = λ r txn i e. absurd i });
    files = λ a b same other known there. absurd (known (unknown a));
    few = λ key at effects i. absurd i;
    told = λ key at effects i e j. absurd i;
  }

  -- ## The sessions

  ends_same : (x : Session) → ends_in c x ≡ ends_of (c.lines x)
  ends_same x =
      ap₂ (λ (ts : List ClientMsg) (os : List Answer). let z : Ends = record { client = (c.lines x).client; up = ts; down = os } in z)
      (none_each (taken_at x (c.lines x).client.led) c.servers
      (each n skew term greatest (λ s. taken_at x (c.lines x).client.led s ≡ []) (λ k. refl)))
      (ap (λ (os : List Answer). os ++ []) (none_each (owed_at x) c.servers (each n skew term greatest (λ s. owed_at x s ≡ []) (λ k. refl))))

  seen : (s : Server) → In s c.servers → WorldStands greatest (world_of s c)
  seen s i =
      let holds : WorldHolds greatest (world_of s c) =
      alike_holds greatest (bare n skew term greatest s) (world_of s c) (record {
        rows = refl;
        records = refl;
        stored = refl;
        skew = refl;
        given = λ k. refl;
        reaps = λ k. refl;
        journal = refl;
        replied = refl;
        ends = ends_same;
      }) (bare_holds n skew term greatest s i).clock (bare_holds n skew term greatest s i) in
      (holds, none_fits greatest (world_of s c) refl holds)

  first_some : ClusterHolds skew greatest c
  first_some = record {
    parts = seen;
    skewed = each n skew term greatest (λ s. s.skew ≡ skew) (λ k. refl);
    addressed = λ x. record { up = λ m i. absurd i; down = λ m i d. absurd i };
    places = first_places n skew term greatest;
    led = first_led;
    peers = each n skew term greatest (λ s. HasPeers (length c.servers) s.paths) (λ k. (λ l i. absurd i, λ h i. absurd i));
  }

pub first_stands : (servers skew term greatest : ℕ) → 1 ≤ servers → ClusterHolds skew greatest (first_cluster servers skew term)
first_stands zero skew term greatest some = absurd (omega arith)
first_stands (suc n) skew term greatest some = first_some n skew term greatest
