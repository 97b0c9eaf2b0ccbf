-- What an event of a server makes of what holds of a world of the servers form.
use Rattle.std.proofs.Common.{◌≡◌, ℕ, ◌≤◌, ◌==◌, max, List, ◌++◌, refl, ap, sym, ◌∙◌, subst, inl, inr, arith}
use Rattle.std.proofs.lemmas.Bool.{eqb-true}
use Rattle.std.proofs.lemmas.List.{length-set}
use Rattle.std.specs.Prelude.{Option, Some, None, slice_get, slice_set}
use Rattle.std.specs.FinMap.{get, insert}
use Rattle.std.specs.List.{find}
use Rattle.fs_ident.specs.In.{In}
use Rattle.fs_ident.specs.declared.actor.Session.{Session}
use Rattle.fs_ident.proofs.Booleans.{both}
use Rattle.fs_ident.proofs.Passing.{found}
use Rattle.fs_ident.proofs.Standing.{In-front, In-got, In-append, In-mapped}
use Rattle.fs_msg.specs.declared.client_msg.ClientMsg.{ClientMsg}
use Rattle.fs_msg.specs.declared.client_msg.ClientMsg.TheVariants.{Ask, Renew, Release, Ship, Lead}
use Rattle.fs_msg.specs.declared.entry.Entry.{Entry}
use Rattle.fs_msg.specs.declared.item.Item.{Item}
use Rattle.fs_client.specs.declared.led.Led.{Led}
use Rattle.fs_server.specs.Step.{step}
use Rattle.fs_server.specs.declared.event.ServerEvent.{ServerEvent}
use Rattle.fs_server.specs.declared.event.ServerEvent.TheVariants.{FromClient, FromPeer, Turn, Recall, Move}
use Rattle.fs_server.specs.declared.state.Server.{Server}
use Rattle.fs_serial.specs.Cluster.{Cluster, IsThere, Lines, after_server, after_server_at, after_step, in_flight_from, is_between, is_with}
use Rattle.fs_serial.specs.Cluster.{replies_after, with_lines, with_sent, without_first, without_arrived, without_question}
use Rattle.fs_serial.specs.Leading.{LedHolds}
use Rattle.fs_serial.specs.Owed.{ends_in, taken_leads}
use Rattle.fs_serial.specs.declared.in_flight.InFlight.{InFlight}
use Rattle.fs_serial.proofs.Lists.SetAt.{In_new, In_set, In_without}
use Rattle.fs_serial.proofs.Lists.Traffic.{messages}
use Rattle.fs_world.specs.Linked.{HasJoined}
use Rattle.fs_world.specs.Order.{Tale, told_to}
use Rattle.fs_world.specs.Parts.{lines_in, lines_of}
use Rattle.fs_world.specs.Served.{SessionStates, with_downs}
use Rattle.fs_world.specs.declared.servers.session_state.SessionState.{SessionState}
use Rattle.fs_world.proofs.Fine.{EntriesAsk, EventAsks, MessageAsks, fine_more, step_fine}
use Rattle.fs_world.proofs.Seen.{joined_still, lines_put}
use Rattle.fs_world.proofs.SeenRows.{BringsOf, IsAsked, IsOf, LedOf, brings_still, step_of}
use Rattle.fs_world.proofs.SeenSends.{downs_joined, flying_of_these, sends_seen}
use Rattle.fs_world.proofs.SerialLaws.{AsksOne, EventLaws}
use Rattle.fs_world.proofs.ServedHolds.{Holds, Parts, cluster_of}
use Rattle.fs_world.proofs.RepliesGiven.{AllTelling, IsTelling}
use Rattle.fs_world.proofs.ServerTelling.{replies_with, telling_after}

module _ (laws : EventLaws) (count skew greatest : ℕ) (tale : Tale) (p : Parts) (h : Holds laws count skew greatest tale p) (now : ℕ)
    (k : ℕ) (s : Server) (at : slice_get p.servers k ≡ Some s) where
  abbrev pub c : Cluster
  c = cluster_of h.replied p

  server_in : In s p.servers
  server_in = In-got p.servers k s at

  -- the server's readings were no greater
  pub clock : s.last ≤ greatest
  clock = laws.clock skew greatest s c server_in h.cluster

  pub later_holds : laws.Holds skew (max greatest now) c
  later_holds = laws.rises skew greatest (max greatest now) c (omega arith) h.cluster

  pub in_time : max s.last now ≤ max greatest now
  in_time = let last = clock in omega arith

  -- ## What is handed in asks for an access where it opens

  abbrev asked_by : Session → List ClientMsg
  asked_by by = (ends_in c by).up

  entries_ask : (by : Session) (entries : List Entry) → In (Ship entries) (asked_by by) → EntriesAsk entries
  entries_ask by entries there e i = laws.asks skew greatest s c by entries server_in there h.cluster e i

  message_asks : (by : Session) (m : ClientMsg) → In m (asked_by by) → MessageAsks m
  message_asks by (Ship entries) there = entries_ask by entries there
  message_asks by (Ask items dir) there = tt
  message_asks by (Renew pairs) there = tt
  message_asks by (Release pairs) there = tt
  message_asks by (Lead m) there = tt

  event_asks : (e : ServerEvent) → IsThere k e c → EventAsks e
  event_asks (FromClient by m) there =
      let l : Lines = lines_of p.term p.sessions by in
      message_asks by m (In-front m (messages l.up) (taken_leads by l.client.led p.servers)
      (In-mapped (λ (x : ℕ × ClientMsg). x.1) (k, m) l.up (found (is_with k) l.up (k, m) there).0))
  event_asks (FromPeer from m) there = tt
  event_asks Turn there = tt
  event_asks (Recall field) there = tt
  event_asks (Move prefix to) there = tt

  -- ## What the server leads

  -- a session of which something is led has joined
  joined_of : (x : Session) (d : Led) → (lines_of p.term p.sessions x).client.led ≡ Some d → HasJoined p.sessions x
  joined_of x d is = at_state (get p.sessions x.0) refl is
    where
      at_state : (o : Option SessionState) → get p.sessions x.0 ≡ o → (lines_in p.term x o).client.led ≡ Some d → HasJoined p.sessions x
      at_state None e f = absurd (cc f)
      at_state (Some state) e f = (state, e)

  held : LedHolds c
  held = laws.led skew greatest c h.cluster

  led_of : LedOf (HasJoined p.sessions) s
  led_of = record {
    leading = λ l i. let q = held.leading s server_in l i in joined_of l.leader.session q.led q.client.led;
    ending = λ x i. let q = held.ending s server_in x i in joined_of x.session q.led q.client.led;
  }

  -- ## An event, whose message is gone from these sessions

  abbrev pub after_core : ServerEvent → SessionStates → Parts
  after_core e before = record p {
    servers = slice_set p.servers k (step s now e).server;
    sessions = with_downs k (step s now e).out.send before;
    in_flight = without_arrived k e p.in_flight ++ in_flight_from k (step s now e).out.send;
    journal = p.journal ++ (step s now e).out.admitted;
  }

  module _ (within : laws.Within skew greatest now) (e : ServerEvent) (before : SessionStates)
      (taken : lines_of p.term before ≡ without_question k e (lines_of p.term p.sessions))
      (stay : (x : Session) → HasJoined p.sessions x → HasJoined before x) (there : IsThere k e c)
      (asker : IsAsked (HasJoined before) e) where
    step_is : IsOf (HasJoined before) (step s now e)
    step_is = step_of (HasJoined before) s now e asker (λ row i. stay row.session (h.rows s server_in row i))
        (record { leading = λ l i. stay l.leader.session (led_of.leading l i); ending = λ x i. stay x.session (led_of.ending x i) })

    abbrev stepped : (Session → Lines) → Cluster
    stepped lines = record {
      servers = slice_set p.servers k (step s now e).server;
      in_flight = without_arrived k e p.in_flight ++ in_flight_from k (step s now e).out.send;
      journal = p.journal ++ (step s now e).out.admitted;
      replied = replies_after e (step s now e).out.admitted h.replied;
      lines = lines;
    }

    pub core_seen : after_server now k e c ≡ cluster_of (replies_after e (step s now e).out.admitted h.replied) (after_core e before)
    core_seen =
        ap (λ (o : Option Server). after_server_at o now k e c) at
        ∙ ap (λ (lines : Session → Lines). stepped lines)
        (ap (with_sent k (step s now e).out.send) (sym taken) ∙ sym (sends_seen p.term k (step s now e).out.send before step_is.sends))

    abbrev then : Cluster
    then = cluster_of (replies_after e (step s now e).out.admitted h.replied) (after_core e before)

    then_holds : laws.Holds skew (max greatest now) then
    then_holds = subst (λ (d : Cluster). laws.Holds skew (max greatest now) d) core_seen
        (laws.event skew (max greatest now) now k e s c at in_time
        (laws.again skew greatest now within) there later_holds)

    asks_one : (x : Session) → AsksOne then x
    asks_one x = laws.exchanges skew (max greatest now) (step s now e).server then x
        (In_new p.servers k s (step s now e).server at) then_holds

    pub step_is_then : after_step k e (step s now e) c ≡ then
    step_is_then = sym (ap (λ (o : Option Server). after_server_at o now k e c) at) ∙ core_seen

    -- what it brings to each session
    at_each : AllTelling (ends_in then) (replies_after e (step s now e).out.admitted h.replied) tale
    at_each x =
        let told = told_to x tale.told in
        let lead = tale.leads x in
        let after : AsksOne (after_step k e (step s now e) c) x = subst (λ (d : Cluster). AsksOne d x) (sym step_is_then) (asks_one x) in
        subst (λ (d : Cluster). IsTelling x (ends_in d x) (replies_after e (step s now e).out.admitted h.replied x) told lead) step_is_then
        (subst (λ (items : List Item). IsTelling x (ends_in (after_step k e (step s now e) c) x) items told lead)
        (sym (replies_with e x (step s now e).out.admitted h.replied))
        (telling_after k c s at x held (laws.exchanges skew greatest s c x server_in h.cluster) now e there after (h.replied x)
        told lead (h.answered x)))

    joined_then : (x : Session) → HasJoined before x → HasJoined (after_core e before).sessions x
    joined_then x i = downs_joined k (step s now e).out.send before x i

    left_there : (e : ServerEvent) (f : InFlight) → In f (without_arrived k e p.in_flight) → In f p.in_flight
    left_there (FromPeer from m) f i = In_without (is_between from k) p.in_flight f i
    left_there (FromClient by m) f i = i
    left_there Turn f i = i
    left_there (Recall field) f i = i
    left_there (Move prefix to) f i = i

    pub server_holds : Holds laws count skew (max greatest now) tale (after_core e before)
    server_holds = record {
      replied = replies_after e (step s now e).out.admitted h.replied;
      cluster = then_holds;
      many = length-set p.servers k (step s now e).server ∙ h.many;
      rows = rows;
      parcels = parcels;
      answered = at_each;
      items = fine_more p.journal (step s now e).out.admitted h.items
          (step_fine s now e (event_asks e there) (laws.leaders skew greatest k s c at h.cluster));
    }
      where
        rows : (x : Server) → In x (after_core e before).servers → (row : _) → In row x.rows
            → HasJoined (after_core e before).sessions row.session
        rows x i row j =
            elim (In_set p.servers k (step s now e).server x i) as (λ _. HasJoined (after_core e before).sessions row.session) [
              | inl same ↦ joined_then row.session (step_is.rows row (subst (λ (y : Server). In row y.rows) same j))
              | inr old ↦ joined_then row.session (stay row.session (h.rows x old row j))
            ]

        parcels : (f : InFlight) → In f (after_core e before).in_flight → BringsOf (HasJoined (after_core e before).sessions) f.message
        parcels f i = elim (In-append f (without_arrived k e p.in_flight) (in_flight_from k (step s now e).out.send) i) as
            (λ _. BringsOf (HasJoined (after_core e before).sessions) f.message) [
              | inl old ↦ brings_still (HasJoined p.sessions) (HasJoined (after_core e before).sessions)
                  (λ x y. joined_then x (stay x y)) f.message (h.parcels f (left_there e f old))
              | inr new ↦ brings_still (HasJoined before) (HasJoined (after_core e before).sessions) joined_then f.message
                  (flying_of_these (HasJoined before) k (step s now e).out.send step_is.sends f new)
            ]

  -- ## A message that comes

  -- the question of the session is there, as it was found
  pub question_there : (by : Session) (state : SessionState) (m : ℕ × ClientMsg) → get p.sessions by.0 ≡ Some state
      → find (is_with k) state.up ≡ Some m → IsThere k (FromClient by m.1) c
  question_there by state m is first =
      ap (λ (n : Lines). find (is_with k) n.up) (ap (lines_in p.term by) is) ∙ first
      ∙ ap (λ (j : ℕ). let o : Option (ℕ × ClientMsg) = Some (j, m.1) in o) (eqb-true m.0 k (found (is_with k) state.up m first).1)

  pub question_taken : (by : Session) (state : SessionState) (m : ClientMsg) → get p.sessions by.0 ≡ Some state
      → lines_of p.term (insert p.sessions by.0 (record state { up = without_first (is_with k) state.up })) ≡ without_question k
      (FromClient by m) (lines_of p.term p.sessions)
  question_taken by state m is =
      lines_put p.term p.sessions by (record state { up = without_first (is_with k) state.up })
      ∙ ap (λ (n : Lines). with_lines by (record n { up = without_first (is_with k) n.up }) (lines_of p.term p.sessions))
      (sym (ap (lines_in p.term by) is))

  pub message_holds : laws.Within skew greatest now → (by : Session) (state : SessionState) (m : ℕ × ClientMsg)
      → get p.sessions by.0 ≡ Some state
      → find (is_with k) state.up ≡ Some m
      → Holds laws count skew (max greatest now) tale
      (after_core (FromClient by m.1) (insert p.sessions by.0 (record state { up = without_first (is_with k) state.up })))
  message_holds within by state m is first = server_holds within (FromClient by m.1)
      (insert p.sessions by.0 (record state { up = without_first (is_with k) state.up }))
      (question_taken by state m.1 is) (λ x i. joined_still p.sessions by x (record state { up = without_first (is_with k) state.up }) i)
      (question_there by state m is first)
      (joined_still p.sessions by by (record state { up = without_first (is_with k) state.up }) (state, is))

  -- the message of another server is there, as it was found
  flying_is : (j : ℕ) (f : InFlight) → f.from ≡ j → f.to ≡ k → f ≡ record { from = j; to = k; message = f.message }
  flying_is j f a b = ap (λ (i : ℕ). let g : InFlight = record { from = i; to = f.to; message = f.message } in g) a
      ∙ ap (λ (i : ℕ). let g : InFlight = record { from = j; to = i; message = f.message } in g) b

  pub flying_there : (j : ℕ) (f : InFlight) → find (is_between j k) p.in_flight ≡ Some f → IsThere k (FromPeer j f.message) c
  flying_there j f first =
      let is = both (f.from == j) (f.to == k) (found (is_between j k) p.in_flight f first).1 in
      first ∙ ap (λ (g : InFlight). let o : Option InFlight = Some g in o) (flying_is j f (eqb-true f.from j is.0) (eqb-true f.to k is.1))

  pub flying_of_joined : (j : ℕ) (f : InFlight) → find (is_between j k) p.in_flight ≡ Some f
      → IsAsked (HasJoined p.sessions) (FromPeer j f.message)
  flying_of_joined j f first = h.parcels f (found (is_between j k) p.in_flight f first).0
