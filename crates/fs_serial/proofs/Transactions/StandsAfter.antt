-- A server takes a step that leaves its transactions, and the one that has all takes the same: all that holds of the cluster holds then.
use Rattle.std.proofs.Common.{◌≡◌, ℕ, ◌≤◌, List, ◌++◌, length, length-set, refl, sym, ap, ap₂, ◌∙◌, subst, inl, inr, arith}
use Rattle.std.specs.Prelude.{Some, slice_get, slice_set}
use Rattle.fs_ident.specs.In.{In}
use Rattle.fs_ident.specs.declared.actor.Session.{Session}
use Rattle.fs_ident.proofs.Standing.{In-got}
use Rattle.fs_record.specs.Records.{RecordMap}
use Rattle.fs_server.specs.Server.{Stepped}
use Rattle.fs_server.specs.declared.event.ServerEvent.{ServerEvent}
use Rattle.fs_server.specs.declared.out.ServerOut.{ServerOut}
use Rattle.fs_server.specs.declared.state.Server.{Server}
use Rattle.fs_txn.specs.Decided.{held_with}
use Rattle.fs_txn.specs.Grants.{Decided, effects_in}
use Rattle.fs_serial.specs.Cluster.{Cluster, IsThere, after_step, replies_after, without_question}
use Rattle.fs_serial.specs.Decided.{WorldStands}
use Rattle.fs_serial.specs.Exchange.{OneExchange, asked_server}
use Rattle.fs_serial.specs.Leading.{LeavesLed, LedHolds}
use Rattle.fs_serial.specs.Owed.{ends_in}
use Rattle.fs_serial.specs.Places.{PlacesHold}
use Rattle.fs_serial.specs.Seen.{ClusterHolds, HasPeers, IsAddressed, counts_of, given_at, reaps_at, world_of}
use Rattle.fs_serial.specs.Sight.{count_with}
use Rattle.fs_serial.specs.Words.{decided_in}
use Rattle.fs_serial.specs.World.{World}
use Rattle.fs_serial.specs.World as world
use Rattle.fs_serial.proofs.Lists.Servers.{In_at}
use Rattle.fs_serial.proofs.Lists.SetAt.{In_set, get_here}
use Rattle.fs_serial.proofs.OneServer.SameStep.{IsSameStep}
use Rattle.fs_serial.proofs.OneServer.StepPlaces.{step_places}
use Rattle.fs_serial.proofs.Transactions.FitsAlike.{stands_alike}
use Rattle.fs_serial.proofs.Transactions.OthersKeep.{step_keeps_led}
use Rattle.fs_serial.proofs.Transactions.SeenMeanwhile.{decided_after, ends_after}
use Rattle.fs_serial.proofs.WholeRuns.Addressing.{AreDue, sent_addressed, taken_addressed}
use Rattle.fs_serial.proofs.WholeRuns.Views.{count_at_place, count_set}

-- ## What one server sees, each sees

pub other_meanwhile : (greatest : ℕ) (c : Cluster) (s t : Server) (i j : ℕ) → slice_get c.servers i ≡ Some s → s.me ≡ i
    → slice_get c.servers j ≡ Some t → t.me ≡ j → t.skew ≡ s.skew → t.last ≤ greatest
    → WorldStands greatest (world_of s c) → WorldStands greatest (world_of t c)
other_meanwhile greatest c s t i j at me at2 me2 skew clock =
    stands_alike greatest (world_of s c) (world_of t c) (record {
      rows = refl;
      records = refl;
      stored = refl;
      skew = skew;
      given = λ n. count_at_place given_at c.servers j t.me t at2 me2 n ∙ sym (count_at_place given_at c.servers i s.me s at me n);
      reaps = λ n. count_at_place reaps_at c.servers j t.me t at2 me2 n ∙ sym (count_at_place reaps_at c.servers i s.me s at me n);
      journal = refl;
      replied = refl;
      ends = λ x. refl;
    }) refl clock

pub all_meanwhile : (skew greatest k : ℕ) (c : Cluster) (s : Server) → slice_get c.servers k ≡ Some s → PlacesHold c
    → ((t : Server) → In t c.servers → t.skew ≡ skew) → ((t : Server) → In t c.servers → t.last ≤ greatest)
    → WorldStands greatest (world_of s c) → (t : Server) → In t c.servers → WorldStands greatest (world_of t c)
all_meanwhile skew greatest k c s at places skewed clocks h t i =
    let q = In_at c.servers t i in
    other_meanwhile greatest c s t k q.place at (places.numbered k s at) q.is (places.numbered q.place t q.is)
    (skewed t i ∙ sym (skewed s (In-got c.servers k s at))) (clocks t i) h

module _ (skew greatest k : ℕ) (c : Cluster) (s : Server) (at : slice_get c.servers k ≡ Some s) (h : ClusterHolds skew greatest c) where
  pub view : WorldStands greatest (world_of s c)
  view = h.parts s (In-got c.servers k s at)

  me : s.me ≡ k
  me = h.places.numbered k s at

  pub ones : (y : Session) → OneExchange (c.lines y).client (c.lines y).client.exchange (ends_in c y).up (ends_in c y).down
  ones y = (view.0.exchanges y).one

  -- what one server that stepped sees, all see
  pub all_stand : (then : Cluster) (t : Server) → then.servers ≡ slice_set c.servers k t → t.skew ≡ s.skew → t.last ≤ greatest
      → PlacesHold then → (HasPeers (length c.servers) s.paths → HasPeers (length c.servers) t.paths) → LedHolds then → WorldStands greatest (world_of t then)
      → ((x : Session) → IsAddressed (then.lines x)) → ClusterHolds skew greatest then
  all_stand then t set same clock places peers led seen addressed =
      let there : slice_get then.servers k ≡ Some t = ap (λ ss. slice_get ss k) set ∙ get_here c.servers k s t at in
      let skewed : (u : Server) → In u then.servers → u.skew ≡ skew = λ u i.
      elim (In_set c.servers k t u (subst (In u) set i)) as (λ _. u.skew ≡ skew) [
        | inl q ↦ ap (λ (z : Server). z.skew) q ∙ same ∙ h.skewed s (In-got c.servers k s at)
        | inr j ↦ h.skewed u j
      ] in
      let clocks : (u : Server) → In u then.servers → u.last ≤ greatest = λ u i.
      elim (In_set c.servers k t u (subst (In u) set i)) as (λ _. u.last ≤ greatest) [
        | inl q ↦ let was : u.last ≡ t.last = ap (λ (z : Server). z.last) q in omega (arith, was, clock)
        | inr j ↦ (h.parts u j).0.clock
      ] in
      record {
        parts = all_meanwhile skew greatest k then t there places skewed clocks seen;
        skewed = skewed;
        addressed = addressed;
        places = places;
        led = led;
        peers = λ u i. subst (λ n. HasPeers n u.paths) (sym (ap length set ∙ length-set c.servers k t))
            (elim (In_set c.servers k t u (subst (In u) set i)) as (λ _. HasPeers (length c.servers) u.paths) [
              | inl q ↦ subst (λ (z : Server). HasPeers (length c.servers) z.paths) (sym q) (peers (h.peers s (In-got c.servers k s at)))
              | inr j ↦ h.peers u j
            ]);
      }

  module _ (e : ServerEvent) (there : IsThere k e c) (small big : Stepped) (q : IsSameStep k e s small big c)
      (leaves : LeavesLed k e s small c) where
    abbrev after : Cluster
    after = after_step k e small c

    -- as the server that has all makes it
    abbrev pub made : World
    made = record {
      server = big.server;
      counts = counts_of c.servers;
      decided = decided_in c;
      journal = c.journal ++ big.out.admitted;
      replied = replies_after e big.out.admitted c.replied;
      ends = world.with_sent big.out.send (world.without_taken e (ends_in c));
    }

    clock : small.server.last ≤ greatest
    clock =
        let last : small.server.last ≡ s.last = q.last in
        let was : s.last ≤ greatest = view.0.clock in
        omega (arith, last, was)

    pub seen_after : WorldStands greatest made → WorldStands greatest (world_of small.server after)
    seen_after =
        let decided : decided_in after ≡ decided_in c = decided_after k e s small c at leaves in
        let records = sym (ap (λ (t : Server). t.records) q.server) in
        stands_alike greatest made (world_of small.server after) (record {
          rows = sym (ap (λ (t : Server). t.rows) q.server);
          records = ap₂ (λ (ds : List Decided) (m : RecordMap). held_with (effects_in ds) m) decided records;
          stored = records;
          skew = sym (ap (λ (t : Server). t.skew) q.server);
          given = λ j. count_set given_at c.servers k small.server.me small.server.given small.server (q.me ∙ me) j
              ∙ sym (ap (λ (t : Server). count_with t.me t.given (λ i. given_at (slice_get c.servers i)) j) q.server);
          reaps = λ j. count_set reaps_at c.servers k small.server.me small.server.reaps small.server (q.me ∙ me) j
              ∙ sym (ap (λ (t : Server). count_with t.me t.reaps (λ i. reaps_at (slice_get c.servers i)) j) q.server);
          journal = ap (λ (o : ServerOut). c.journal ++ o.admitted) q.out;
          replied = ap (λ (o : ServerOut). replies_after e o.admitted c.replied) q.out;
          ends = λ y. ends_after k e s small c at leaves there ones y
              ∙ ap (λ (o : ServerOut). world.with_sent o.send (world.without_taken e (ends_in c)) y) q.out;
        }) decided clock

    pub stands_after : (HasPeers (length c.servers) s.paths → HasPeers (length c.servers) small.server.paths)
        → AreDue k small.out.send (λ z. asked_server (without_question k e c.lines z).client.exchange)
        → WorldStands greatest made → ClusterHolds skew greatest after
    stands_after peers due held =
        all_stand after small.server refl q.skew clock (step_places k e s small big c at h.places q) peers
        (step_keeps_led k e s small c at h.led leaves) (seen_after held)
        (sent_addressed k small.out.send (without_question k e c.lines) due (taken_addressed k e c.lines h.addressed))
