-- A server took a step in which rows are only locked and unlocked and nothing is decided: all that holds of the cluster holds then.
use Rattle.std.proofs.Common.{◌≡◌, ◌≤◌, ℕ, List, [], ◌∷◌, ◌++◌, map, append-nil, refl, sym, ap, ap₂, ◌∙◌, subst}
use Rattle.std.specs.Prelude.{Bool, Some, is_some, length, slice_get, slice_set, Option}
use Rattle.std.specs.FinMap.{empty, get}
use Rattle.std.specs.List.{find}
use Rattle.std.proofs.lemmas.Grind.{flat_map-append}
use mathlib.Core.Path.{fun_ext}
use Rattle.fs_ident.specs.In.{In}
use Rattle.fs_ident.specs.declared.actor.Peer.{Peer}
use Rattle.fs_ident.specs.declared.actor.Session.{Session}
use Rattle.fs_ident.proofs.Standing.{In-got}
use Rattle.fs_field.specs.declared.row.Row.{Row}
use Rattle.fs_field.specs.declared.path.PathAnswer.{PathAnswer}
use Rattle.fs_msg.specs.declared.msg.Msg.{Msg}
use Rattle.fs_model.specs.Asking.{home_of}
use Rattle.fs_model.specs.Ancestors.{is_on_chain}
use Rattle.fs_record.specs.Records.{AreRecords, RecordMap, nodes_of}
use Rattle.fs_record.specs.declared.parcel.Parcel.{Parcel}
use Rattle.fs_server.specs.declared.state.Server.{Server}
use Rattle.fs_txn.specs.Decided.{held_with}
use Rattle.fs_txn.specs.Grants.{Decided, IsBare, effects_in}
use Rattle.fs_txn.specs.declared.leading.Leading.{Leading}
use Rattle.fs_serial.specs.Cluster.{Cluster, InFlight, Lines, in_flight_from, parcels_of, without_first}
use Rattle.fs_serial.specs.Conclusions.{TellsCycles}
use Rattle.fs_serial.specs.Decided.{IsOfFile, WorldStands}
use Rattle.fs_serial.specs.Exchange.{due}
use Rattle.fs_serial.specs.Joined.{records_of_all, rows_of_all, with_parcels}
use Rattle.fs_serial.specs.Leading.{LedHolds}
use Rattle.fs_serial.specs.Locks.{at_home}
use Rattle.fs_serial.specs.Owed.{ends_in}
use Rattle.fs_serial.specs.Places.{PlacesHold}
use Rattle.fs_serial.specs.Refusals.{rows_in}
use Rattle.fs_serial.specs.Seen.{ClusterHolds, IsAddressed, given_at, reaps_at, world_of}
use Rattle.fs_serial.specs.Sight.{count_with}
use Rattle.fs_serial.specs.Words.{decided_among, decided_by, decided_in}
use Rattle.fs_serial.specs.World.{Ends, World, WorldHolds}
use Rattle.fs_serial.specs.Fresh.{made}
use Rattle.fs_serial.proofs.DecidedEffects.DecideSeen.{StaysDecided, fits_again}
use Rattle.fs_serial.proofs.DecidedEffects.GuardsAgain.{all_put}
use Rattle.fs_serial.proofs.DecidedEffects.HeldSeen.{held_same, held_seen}
use Rattle.fs_serial.proofs.DecidedEffects.RelockedWorld.{relocked_holds, with_locks}
use Rattle.fs_serial.proofs.DecidedEffects.ToldParts.{IsPutIn}
use Rattle.fs_serial.proofs.Lists.Traffic.{IsTaken, taken_first}
use Rattle.fs_serial.proofs.Moves.Parcels.{parcels-append}
use Rattle.fs_serial.proofs.Places.RelockedRows.{home_relock, rows_relocked}
use Rattle.fs_serial.proofs.Moves.KeptPaths.{SamePaths, peers_still}
use Rattle.fs_serial.proofs.Returns.Lapsing.{same_records}
use Rattle.fs_serial.proofs.Transactions.DecidedStill.{decided_same, ended_set}
use Rattle.fs_serial.proofs.Transactions.PlacesAfter.{AreRelocked, AreWords, StaysHome, places_stepped}
use Rattle.fs_serial.proofs.Transactions.StandsAfter.{all_stand}
use Rattle.fs_serial.proofs.WholeRuns.Views.{alike_holds, count_set}

-- rows are locked and unlocked, and nothing else of what all servers hold together changes
pub record OnlyRelocks (k : ℕ) (s t : Server) (c after : Cluster) : Type 0 where
  pub servers : after.servers ≡ slice_set c.servers k t
  pub me : t.me ≡ s.me
  pub skew : t.skew ≡ s.skew
  pub last : t.last ≡ s.last
  pub given : t.given ≡ s.given
  pub reaps : t.reaps ≡ s.reaps
  pub records : t.records ≡ s.records
  pub paths : SamePaths s.paths t.paths
  pub rows : AreRelocked s.rows t.rows
  pub parcels : parcels_of after.in_flight ≡ parcels_of c.in_flight
  pub decided : decided_in after ≡ decided_in c
  pub journal : after.journal ≡ c.journal
  pub replied : after.replied ≡ c.replied

module _ (skew greatest k : ℕ) (c : Cluster) (s t : Server) (at : slice_get c.servers k ≡ Some s) (h : ClusterHolds skew greatest c)
    (after : Cluster) (q : OnlyRelocks k s t c after) where
  here : In s c.servers
  here = In-got c.servers k s at

  abbrev w : World
  w = world_of s c

  view : WorldStands greatest w
  view = h.parts s here

  abbrev relock : Row → Row
  relock = at_home s q.rows.change

  abbrev records : RecordMap
  records = records_of_all c.servers (parcels_of c.in_flight)

  rows_then : rows_in after ≡ map relock (rows_in c)
  rows_then =
      ap₂ (λ ss ps. rows_of_all ss ps) q.servers q.parcels
      ∙ rows_relocked k c s t at h.places q.rows.change q.rows.relock q.rows.is

  records_then : records_of_all after.servers (parcels_of after.in_flight) ≡ records
  records_then =
      ap₂ (λ ss ps. records_of_all ss ps) q.servers q.parcels
      ∙ ap (with_parcels (parcels_of c.in_flight)) (same_records c.servers k s t empty at q.records)

  pub held_then : held_seen after ≡ held_seen c
  held_then = ap₂ (λ (ds : List Decided) (m : RecordMap). held_with (effects_in ds) m) q.decided records_then

  module _ (holds : WorldHolds greatest (record w { ends = ends_in after })) where
    clock : t.last ≤ greatest
    clock = subst (λ n. n ≤ greatest) (sym q.last) view.0.clock

    world_holds : WorldHolds greatest (world_of t after)
    world_holds =
        alike_holds greatest (with_locks relock (record w { ends = ends_in after })) (world_of t after) (record {
          rows = rows_then;
          records = held_then;
          stored = records_then;
          skew = q.skew;
          given = λ j. ap (λ ss. count_with t.me t.given (λ i. given_at (slice_get ss i)) j) q.servers
              ∙ count_set given_at c.servers k t.me t.given t (q.me ∙ h.places.numbered k s at) j
              ∙ ap₂ (λ me n. count_with me n (λ i. given_at (slice_get c.servers i)) j) q.me q.given;
          reaps = λ j. ap (λ ss. count_with t.me t.reaps (λ i. reaps_at (slice_get ss i)) j) q.servers
              ∙ count_set reaps_at c.servers k t.me t.reaps t (q.me ∙ h.places.numbered k s at) j
              ∙ ap₂ (λ me n. count_with me n (λ i. reaps_at (slice_get c.servers i)) j) q.me q.reaps;
          journal = q.journal;
          replied = q.replied;
          ends = λ y. refl;
        }) clock
        (relocked_holds relock (home_relock s q.rows.change q.rows.relock) greatest (record w { ends = ends_in after }) holds)

    module _ (silent : (x : Session) → due (ends_in after x).down ≡ [] → due (ends_in c x).down ≡ []) (led : LedHolds after) where
      stays : (d : Decided) → In d (decided_in after) → StaysDecided after d
      stays d i =
          let j : In d (decided_in c) = subst (In d) q.decided i in
          let x = view.1.all.stand d j in
          record {
            put = subst (λ m. IsPutIn (nodes_of m) d.effect) (sym held_then) (all_put skew greatest c h s here d j);
            bare = subst (λ m. IsBare m d.effect) (sym records_then) x.bare;
            file = subst (λ is. IsOfFile is d.effect) (sym q.journal) x.file;
            owed = λ none. view.1.owed d j (silent d.by none);
          }

      pub relocked_stands : PlacesHold after → ((x : Session) → IsAddressed (after.lines x)) → ClusterHolds skew greatest after
      relocked_stands places addressed =
          all_stand skew greatest k c s at h after t q.servers q.skew clock places (peers_still (length c.servers) s.paths t.paths q.paths) led
          (world_holds, fits_again after t led (subst AreRecords (sym records_then) view.1.all.records) stays) addressed

-- ## What is on its way

-- of a message that tells no decision, none is missed
pub undecided_taken : (ss : List Server) (is : InFlight → Bool) (fs : List InFlight) (f : InFlight) → find is fs ≡ Some f
    → decided_by ss f.message ≡ [] → decided_among ss (without_first is fs) ≡ decided_among ss fs
undecided_taken ss is fs f e none =
    let q : IsTaken is fs f = taken_first is fs f e in
    let each : InFlight → List Decided = λ g. decided_by ss g.message in
    ap (decided_among ss) q.left ∙ flat_map-append each q.front q.back
    ∙ ap (λ ds. decided_among ss q.front ++ (ds ++ decided_among ss q.back)) (sym none)
    ∙ sym (flat_map-append each q.front (f ∷ q.back)) ∙ sym (ap (decided_among ss) q.whole)

-- ## A step in which sessions are told nothing

-- of the server rows are locked and unlocked, files are kept, and what it leads changes
pub record OnlyRows (s t : Server) : Type 0 where
  pub me : t.me ≡ s.me
  pub map : t.map ≡ s.map
  pub skew : t.skew ≡ s.skew
  pub last : t.last ≡ s.last
  pub given : t.given ≡ s.given
  pub reaps : t.reaps ≡ s.reaps
  pub records : t.records ≡ s.records
  pub paths : SamePaths s.paths t.paths
  pub ending : t.ending ≡ s.ending
  pub rows : AreRelocked s.rows t.rows

module _ (skew greatest k : ℕ) (c : Cluster) (s t : Server) (at : slice_get c.servers k ≡ Some s) (h : ClusterHolds skew greatest c)
    (left : List InFlight) (ms : List (Peer × Msg)) (lines : Session → Lines) where
  -- all after it
  abbrev pub quietly : Cluster
  quietly = record {
    servers = slice_set c.servers k t;
    in_flight = left ++ in_flight_from k ms;
    journal = c.journal ++ [];
    replied = c.replied;
    lines = lines;
  }

  pub record IsQuiet : Type 0 where
    pub rows : OnlyRows s t
    -- what comes hands nothing over and decides nothing
    pub parcels : parcels_of left ≡ parcels_of c.in_flight
    pub decided : decided_among c.servers left ≡ decided_in c
    pub among : (f : InFlight) → In f left → In f c.in_flight
    -- nor does what is sent
    pub words : AreWords (length c.servers) ms
    pub none : parcels_of (in_flight_from k ms) ≡ []
    pub undecided : (ss : List Server) → decided_among ss (in_flight_from k ms) ≡ []
    pub ends : (x : Session) → ends_in quietly x ≡ ends_in c x
    pub addressed : (x : Session) → IsAddressed (lines x)

  module _ (q : IsQuiet) where
    home : StaysHome s t
    home = record {
      me = q.rows.me;
      owners = q.rows.map;
      rows = q.rows.rows;
      records = λ id e. (h.places.homes s (In-got c.servers k s at)).records id
          (ap (λ m. is_some (get m id)) (sym q.rows.records) ∙ e);
    }

    changes : OnlyRelocks k s t c quietly
    changes = record {
      servers = refl;
      me = q.rows.me;
      skew = q.rows.skew;
      last = q.rows.last;
      given = q.rows.given;
      reaps = q.rows.reaps;
      records = q.rows.records;
      paths = q.rows.paths;
      rows = q.rows.rows;
      parcels = parcels-append left (in_flight_from k ms) ∙ ap₂ (λ (a b : List Parcel). a ++ b) q.parcels q.none
          ∙ append-nil (parcels_of c.in_flight);
      decided =
          flat_map-append (λ (g : InFlight). decided_by quietly.servers g.message) left (in_flight_from k ms)
          ∙ ap₂ (λ (a b : List Decided). a ++ b)
          (decided_same c.servers quietly.servers left left (ended_set c.servers k s t at q.rows.ending) refl ∙ q.decided)
          (q.undecided quietly.servers)
          ∙ append-nil (decided_in c);
      journal = append-nil c.journal;
      replied = refl;
    }

    pub quiet_stands : LedHolds quietly → ClusterHolds skew greatest quietly
    quiet_stands led =
        relocked_stands skew greatest k c s t at h quietly changes
        (subst (λ es. WorldHolds greatest (record (world_of s c) { ends = es })) (sym (fun_ext q.ends))
        (h.parts s (In-got c.servers k s at)).0)
        (λ x e. ap (λ (z : Ends). due z.down) (sym (q.ends x)) ∙ e) led
        (places_stepped k c s t at h.places home left ms [] c.replied lines q.parcels q.among q.words) q.addressed

    -- what a path tells of chains it tells still
    pub quiet_tells : LedHolds quietly → (l : Leading) (path : Option PathAnswer) → TellsCycles c l path → TellsCycles quietly l path
    quiet_tells led l path tells made_then files known =
        tells (ap (λ is. made is (home_of l.leader.op)) (sym (append-nil c.journal)) ∙ made_then) files known
        ∙ ap (λ m. is_on_chain (nodes_of m) l.leader.file (home_of l.leader.op))
        (held_same c h.led ∙ sym (held_then skew greatest k c s t at h quietly changes) ∙ sym (held_same quietly led))
