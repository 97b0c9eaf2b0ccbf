-- A part applies what it is told: what all hold together stays as it was, and all that holds of it.
use Rattle.std.proofs.Common.{◌≡◌, ℕ, List, [], ◌∷◌, ◌++◌, append-nil, map, refl, sym, ap, ap₂, ◌∙◌, subst, inl, inr}
use Rattle.std.specs.Prelude.{Some, slice_get}
use Rattle.std.proofs.lemmas.Grind.{flat_map-append}
use Rattle.fs_ident.specs.In.{In}
use Rattle.fs_ident.specs.declared.actor.Session.{Session}
use Rattle.fs_ident.proofs.Standing.{In-append, In-behind, In-front, In-got}
use Rattle.fs_field.specs.declared.row.Row.{Row}
use Rattle.fs_msg.specs.declared.decide.Decide.{Decide as ToDecide}
use Rattle.fs_msg.specs.declared.peer_msg.PeerMsg.TheVariants as peer
use Rattle.fs_record.specs.Applied.{records_after_all}
use Rattle.fs_record.specs.Records.{AreRecords, RecordMap, nodes_of}
use Rattle.fs_server.specs.Follows.{after_decision, applies}
use Rattle.fs_server.specs.declared.event.ServerEvent.{ServerEvent}
use Rattle.fs_server.specs.declared.event.ServerEvent.TheVariants.{FromPeer}
use Rattle.fs_server.specs.declared.state.Server.{Server}
use Rattle.fs_txn.specs.Decided.{held_with}
use Rattle.fs_txn.specs.Grants.{Decided, IsBare, effects_in}
use Rattle.fs_txn.specs.Ready.{is_awaited, without_prepared}
use Rattle.fs_txn.specs.Stages.{Key, word_to}
use Rattle.fs_txn.specs.Stages.Word.{Decide}
use Rattle.fs_txn.proofs.Waiting.{in_their_order}
use Rattle.fs_serial.specs.Cluster.{Cluster, InFlight, IsThere, after_step, in_flight_from, is_between, parcels_of}
use Rattle.fs_serial.specs.Cluster.{without_arrived}
use Rattle.fs_serial.specs.Decided.{DecidedFits, IsOfFile, IsOwnApart, WorldStands, after_decide}
use Rattle.fs_serial.specs.Exchange.{due}
use Rattle.fs_serial.specs.Joined.{records_of_all, rows_of_all}
use Rattle.fs_serial.specs.Leading.{LedHolds}
use Rattle.fs_serial.specs.Locks.{at_home}
use Rattle.fs_serial.specs.Owed.{ends_in}
use Rattle.fs_serial.specs.Refusals.{rows_in}
use Rattle.fs_serial.specs.Seen.{ClusterHolds, given_at, reaps_at, world_of}
use Rattle.fs_serial.specs.Words.{decided_among, decided_at, decided_by, decided_in, ended_in, key_of, led_in, telling_of}
use Rattle.fs_serial.specs.World.{Ends, World, WorldHolds}
use Rattle.fs_serial.proofs.DecidedEffects.Applying.{decide_keeps, same_held}
use Rattle.fs_serial.proofs.DecidedEffects.GuardsAgain.{IsPut, all_put, decided_again, guarded_again}
use Rattle.fs_serial.proofs.DecidedEffects.HeldSeen.{held_seen}
use Rattle.fs_serial.proofs.DecidedEffects.OwnApart.{own_apart}
use Rattle.fs_serial.proofs.DecidedEffects.RelockedWorld.{relocked_holds, with_locks}
use Rattle.fs_serial.proofs.DecidedEffects.ToldParts.{IsPutIn}
use Rattle.fs_serial.proofs.LedOperations.LedSteps.{effects_of_sent}
use Rattle.fs_serial.proofs.Lists.Traffic.{IsTaken, taken_first}
use Rattle.fs_serial.proofs.Moves.Parcels.{parcels-append}
use Rattle.fs_serial.proofs.Places.AppliedRecords.{records_applied}
use Rattle.fs_serial.proofs.Places.RelockedRows.{home_relock, rows_relocked}
use Rattle.fs_serial.proofs.Transactions.AwaitedWords.{IsAwaitedBy, awaited_by, decide_here}
use Rattle.fs_serial.proofs.Transactions.DecidedStill.{decided_same, ended_set}
use Rattle.fs_serial.proofs.Transactions.DecisionPlaces.{told_here, told_word}
use Rattle.fs_serial.proofs.Transactions.PlacesAfter.{AreRelocked, unlocked_unless, word_taken}
use Rattle.fs_serial.proofs.Transactions.SeenMeanwhile.{ends_same}
use Rattle.fs_serial.proofs.WholeRuns.Views.{AreAlike, alike_holds, count_set}

-- ## What is decided, again

-- what has to be shown of each where rows were unlocked
pub record StaysDecided (c : Cluster) (d : Decided) : Type 0 where
  pub put : IsPut c d
  pub bare : IsBare (records_of_all c.servers (parcels_of c.in_flight)) d.effect
  pub file : IsOfFile c.journal d.effect
  pub owed : due (ends_in c d.by).down ≡ [] → ⊥

-- its guards are those of the parts that are told
pub fits_again : (c : Cluster) (t : Server) → LedHolds c → AreRecords (records_of_all c.servers (parcels_of c.in_flight))
    → ((d : Decided) → In d (decided_in c) → StaysDecided c d) → DecidedFits (world_of t c)
fits_again c t led records stays = record {
  all = record {
    records = records;
    stand = λ d i. record {
      decided = decided_again c led d i;
      guarded = guarded_again c led d i (stays d i).put;
      bare = (stays d i).bare;
      file = (stays d i).file;
    };
  };
  owed = λ d i. (stays d i).owed;
}

module _ (k from skew greatest : ℕ) (c : Cluster) (s : Server) (at : slice_get c.servers k ≡ Some s)
    (h : ClusterHolds skew greatest c) (m : ToDecide) (comes : IsThere k (FromPeer from (peer.Decide m)) c) where
  abbrev e : ServerEvent
  e = FromPeer from (peer.Decide m)

  abbrev pub then : Server
  then = after_decision m s

  abbrev pub after : Cluster
  after = after_step k e (applies from m s) c

  abbrev f : InFlight
  f = record { from = from; to = k; message = peer.Decide m }

  abbrev key : Key
  key = key_of m.txn m.number

  s_in : In s c.servers
  s_in = In-got c.servers k s at

  pub told : In (word_to key k (Decide m.effects)) (telling_of c.in_flight)
  told = told_word k c s at h.places h.led from m comes

  pub taken : IsTaken (is_between from k) c.in_flight f
  taken = taken_first (is_between from k) c.in_flight f comes

  -- ## What is decided

  abbrev pub before : List Decided
  before = decided_among c.servers taken.front

  abbrev pub behind : List Decided
  behind = decided_among c.servers taken.back

  abbrev pub its : List Decided
  its = decided_by c.servers (peer.Decide m)

  pub whole : decided_in c ≡ before ++ (its ++ behind)
  whole = ap (decided_among c.servers) taken.whole
      ∙ flat_map-append (λ (g : InFlight). decided_by c.servers g.message) taken.front (f ∷ taken.back)

  its_ending : IsAwaitedBy m.number (ended_in c.servers m.txn) k
  its_ending = awaited_by m.number k (led_in c.servers m.txn) (ended_in c.servers m.txn) (decide_here k from c s at h.led m comes).stage

  its_effects : effects_in its ≡ m.effects
  its_effects = ap (λ o. effects_in (decided_at o m.effects)) its_ending.is ∙ effects_of_sent its_ending.ending.session m.effects

  -- what is told was taken, and no more is decided
  decided_then : decided_in after ≡ before ++ behind
  decided_then =
      flat_map-append (λ (g : InFlight). decided_by after.servers g.message) (without_arrived k e c.in_flight)
      (in_flight_from k (applies from m s).out.send)
      ∙ append-nil (decided_among after.servers (without_arrived k e c.in_flight))
      ∙ decided_same c.servers after.servers (without_arrived k e c.in_flight) (without_arrived k e c.in_flight)
      (ended_set c.servers k s then at refl) refl
      ∙ ap (decided_among c.servers) taken.left
      ∙ flat_map-append (λ (g : InFlight). decided_by c.servers g.message) taken.front taken.back

  -- ## What stands

  parcels_then : parcels_of after.in_flight ≡ parcels_of c.in_flight
  parcels_then =
      parcels-append (without_arrived k e c.in_flight) (in_flight_from k (applies from m s).out.send)
      ∙ append-nil (parcels_of (without_arrived k e c.in_flight))
      ∙ word_taken (is_between from k) c.in_flight f comes refl

  relocked : AreRelocked s.rows then.rows
  relocked = unlocked_unless (is_awaited m.txn (without_prepared m.txn m.number s.prepared)) m.txn s.rows

  abbrev relock : Row → Row
  relock = at_home s relocked.change

  rows_then : rows_in after ≡ map relock (rows_in c)
  rows_then = ap (rows_of_all after.servers) parcels_then
      ∙ rows_relocked k c s then at h.places relocked.change relocked.relock relocked.is

  abbrev pub records : RecordMap
  records = records_of_all c.servers (parcels_of c.in_flight)

  pub records_then : records_of_all after.servers (parcels_of after.in_flight) ≡ records_after_all records (effects_in its)
  records_then =
      ap (records_of_all after.servers) parcels_then
      ∙ records_applied k c s then at h.places m.effects (told_here k c s at h.places h.led from m comes)
      (in_their_order s.records m.effects (λ x i. (h.led.told key k m.effects told x i).decided))
      ∙ ap (records_after_all records) (sym its_effects)

  abbrev w : World
  w = world_of s c

  pub own : IsOwnApart (before ++ behind) its
  own = subst (λ ds. IsOwnApart ds its)
      (flat_map-append (λ (g : InFlight). decided_by c.servers g.message) taken.front taken.back)
      (own_apart skew greatest c h f taken.front taken.back taken.whole)

  abbrev applied : World
  applied = after_decide before its behind w

  applied_stands : WorldStands greatest applied
  applied_stands = decide_keeps greatest w before its behind whole own (h.parts s s_in)

  pub unseen : held_seen after ≡ held_seen c
  unseen = ap₂ (λ ds n. held_with (effects_in ds) n) decided_then records_then
      ∙ same_held greatest w before its behind whole own (h.parts s s_in)

  ends_then : (x : Session) → ends_in after x ≡ ends_in c x
  ends_then x = ends_same c.servers k s then at refl refl x (c.lines x)

  alike : AreAlike (with_locks relock applied) (world_of then after)
  alike = record {
    rows = rows_then;
    records = ap₂ (λ ds n. held_with (effects_in ds) n) decided_then records_then;
    stored = records_then;
    skew = refl;
    given = λ j. count_set given_at c.servers k s.me s.given then (h.places.numbered k s at) j;
    reaps = λ j. count_set reaps_at c.servers k s.me s.reaps then (h.places.numbered k s at) j;
    journal = append-nil c.journal;
    replied = refl;
    ends = ends_then;
  }

  decide_holds : WorldHolds greatest (world_of then after)
  decide_holds = alike_holds greatest (with_locks relock applied) (world_of then after) alike applied_stands.0.clock
      (relocked_holds relock (home_relock s relocked.change relocked.relock) greatest applied applied_stands.0)

  -- each that is left stays decided
  pub left_before : (d : Decided) → In d (decided_in after) → In d (before ++ behind)
  left_before d i = subst (In d) decided_then i

  was_before : (d : Decided) → In d (before ++ behind) → In d (decided_in c)
  was_before d i = subst (In d) (sym whole) (elim (In-append d before behind i) as (λ _. In d (before ++ (its ++ behind))) [
    | inl j ↦ In-front d before (its ++ behind) j
    | inr j ↦ In-behind d before (its ++ behind) (In-behind d its behind j)
  ])

  stays : (d : Decided) → In d (decided_in after) → StaysDecided after d
  stays d i =
      let j : In d (before ++ behind) = left_before d i in
      let q = (applied_stands.1).all.stand d j in
      record {
        put = subst (λ n. IsPutIn (nodes_of n) d.effect) (sym unseen) (all_put skew greatest c h s s_in d (was_before d j));
        bare = subst (λ n. IsBare n d.effect) (sym records_then) q.bare;
        file = subst (λ is. IsOfFile is d.effect) (sym (append-nil c.journal)) q.file;
        owed = λ none. (applied_stands.1).owed d j (ap (λ (x : Ends). due x.down) (sym (ends_then d.by)) ∙ none);
      }

  module _ (led : LedHolds after) where
    pub decide_stands : WorldStands greatest (world_of then after)
    decide_stands = (decide_holds, fits_again after then led (subst AreRecords (sym records_then) (applied_stands.1).all.records) stays)
