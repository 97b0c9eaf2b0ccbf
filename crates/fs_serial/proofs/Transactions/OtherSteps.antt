-- A server takes its step, with the rows dropped that are over: where it is no word of a transaction all that holds of the cluster stays.
use Rattle.std.proofs.Common.{◌≡◌, ℕ, ◌≤◌, max, Bool, List, refl, ap, ap₂, subst}
use Rattle.std.specs.Prelude.{Some, slice_get, slice_set}
use Rattle.std.specs.FinMap.{empty}
use Rattle.std.specs.List.{filter}
use Rattle.fs_field.specs.declared.row.Row.{Row}
use Rattle.fs_record.specs.Records.{RecordMap}
use Rattle.fs_server.specs.Server.{Stepped, begun}
use Rattle.fs_server.specs.Step.{step}
use Rattle.fs_server.specs.declared.event.ServerEvent.{ServerEvent}
use Rattle.fs_server.specs.declared.state.Server.{Server}
use Rattle.fs_txn.specs.Decided.{held_with}
use Rattle.fs_txn.specs.Grants.{Decided, effects_in}
use Rattle.fs_serial.specs.Cluster.{Cluster, IsThere, after_step, parcels_of}
use Rattle.fs_serial.specs.Decided.{WorldStands}
use Rattle.fs_serial.specs.Joined.{records_of_all, with_parcels}
use Rattle.fs_serial.specs.Seen.{ClusterHolds, given_at, reaps_at, world_of}
use Rattle.fs_serial.specs.Words.{IsNoneOfLed, decided_in}
use Rattle.fs_serial.specs.World.{World}
use Rattle.fs_serial.proofs.DecidedEffects.DecidedKept.{lapse_fits, last_fits}
use Rattle.fs_serial.proofs.Lists.SetAt.{get_here, set_twice}
use Rattle.fs_serial.proofs.OtherSessions.Rising.{lapse_some_keeps, last_rises}
use Rattle.fs_serial.proofs.Returns.Lapsing.{begun_at, keep, kept_locked, over, places_then, rows_are, same_records, there_begun}
use Rattle.fs_serial.proofs.Transactions.DecidedStill.{decided_same, ended_set}
use Rattle.fs_serial.proofs.Transactions.FitsAlike.{stands_alike}
use Rattle.fs_serial.proofs.Transactions.LeavesLed.{begun_keeps_led}
use Rattle.fs_serial.proofs.Transactions.OtherEvents.{other_event}
use Rattle.fs_serial.proofs.Transactions.SeenMeanwhile.{ends_same}
use Rattle.fs_serial.proofs.Transactions.StandsAfter.{all_stand, view}
use Rattle.fs_serial.proofs.WholeRuns.Views.{count_set}

module _ (skew greatest now k : ℕ) (s : Server) (c : Cluster) (at : slice_get c.servers k ≡ Some s) (before : max s.last now ≤ greatest)
    (h : ClusterHolds skew greatest c) where
  abbrev w : World
  w = world_of s c

  abbrev stays : Row → Bool
  stays = keep greatest now k s c at before h.places

  abbrev then : Cluster
  then = begun_at now k s c

  abbrev lapsed : World
  lapsed = record w { server = record w.server { rows = filter stays w.server.rows } }

  abbrev risen : World
  risen = record lapsed { server = record lapsed.server { last = max s.last now } }

  standing : WorldStands greatest w
  standing = view skew greatest k c s at h

  risen_stands : WorldStands greatest risen
  risen_stands = (
    last_rises greatest (max s.last now) lapsed before
        (lapse_some_keeps greatest w stays (λ r i e. over greatest now k s c at before h.places r e) standing.0),
    last_fits (max s.last now) lapsed
        (lapse_fits w stays (λ r i lock. kept_locked greatest now k s c at before h.places r lock) standing.1),
  )

  seen_then : WorldStands greatest (world_of (begun now s) then)
  seen_then =
      let me : s.me ≡ k = h.places.numbered k s at in
      let decided : decided_in then ≡ decided_in c =
      decided_same c.servers (slice_set c.servers k (begun now s)) c.in_flight c.in_flight (ended_set c.servers k s (begun now s) at refl)
      refl in
      let records : records_of_all then.servers (parcels_of c.in_flight) ≡ records_of_all c.servers (parcels_of c.in_flight) =
      ap (with_parcels (parcels_of c.in_flight)) (same_records c.servers k s (begun now s) empty at refl) in
      stands_alike greatest risen (world_of (begun now s) then) (record {
        rows = rows_are greatest now k s c at before h.places;
        records = ap₂ (λ (ds : List Decided) (m : RecordMap). held_with (effects_in ds) m) decided records;
        stored = records;
        skew = refl;
        given = λ j. count_set given_at c.servers k s.me s.given (begun now s) me j;
        reaps = λ j. count_set reaps_at c.servers k s.me s.reaps (begun now s) me j;
        journal = refl;
        replied = refl;
        ends = λ y. ends_same c.servers k s (begun now s) at refl refl y (c.lines y);
      }) decided before risen_stands

  -- all that holds holds when the event begins
  pub begins_stands : ClusterHolds skew greatest then
  begins_stands =
      all_stand skew greatest k c s at h then (begun now s) refl refl before (places_then greatest now k s c at before h.places) (λ p. p)
      (begun_keeps_led k now s c at h.led) seen_then h.addressed

pub other_step : (skew greatest now k : ℕ) (e : ServerEvent) (s : Server) (c : Cluster) → slice_get c.servers k ≡ Some s
    → max s.last now ≤ greatest → IsThere k e c → IsNoneOfLed e → ClusterHolds skew greatest c
    → ClusterHolds skew greatest (after_step k e (step s now e) c)
other_step skew greatest now k e s c at before there none h =
    let x : Stepped = step s now e in
    let after : Cluster = after_step k e x c in
    subst (λ (ss : List Server). ClusterHolds skew greatest (record after { servers = ss })) (set_twice c.servers k (begun now s) x.server)
    (other_event skew greatest k (begun_at now k s c) (begun now s) (get_here c.servers k s (begun now s) at)
    (begins_stands skew greatest now k s c at before h) e (there_begun now k s e c there) none)
