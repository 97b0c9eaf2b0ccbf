-- Every event of a world of the servers form notes what is right.
use Rattle.std.proofs.Common.{◌≡◌, ℕ, ◌+◌, ◌==◌, ◌≤◌, ◌<◌, max, true, false, List, [], ◌∷◌, ◌++◌, length, cond, refl, sym, ap, ap₂, ◌∙◌}
use Rattle.std.proofs.Common.{subst, arith}
use Rattle.std.proofs.lemmas.Bool.{eqb-true}
use Rattle.std.specs.Prelude.{Option, Some, None, nat_lt, slice_get, slice_set}
use Rattle.std.specs.FinMap.{get, insert}
use Rattle.std.specs.List.{AllByRecursion, find}
use Rattle.fs_ident.specs.In.{In}
use Rattle.fs_ident.specs.declared.actor.LeaseNo.{LeaseNo}
use Rattle.fs_ident.specs.declared.actor.Peer.{Peer}
use Rattle.fs_ident.specs.declared.actor.Peer.TheVariants.{Server, Client}
use Rattle.fs_ident.specs.declared.actor.Session.{Session}
use Rattle.fs_ident.specs.declared.actor.TxnNo.{TxnNo}
use Rattle.fs_ident.proofs.Booleans.{both}
use Rattle.fs_ident.proofs.Passing.{found}
use Rattle.fs_ident.proofs.Standing.{In-got}
use Rattle.fs_field.specs.declared.field.Field.{Field}
use Rattle.fs_field.specs.declared.row.Row.{Row}
use Rattle.fs_model.specs.declared.op.Op.{Op}
use Rattle.fs_window.specs.Post.{Links, post_accepted}
use Rattle.fs_window.proofs.Lists.{some_is}
use Rattle.fs_window.specs.Reading.{packet_at}
use Rattle.fs_window.specs.declared.heard.Heard.{Heard}
use Rattle.fs_window.specs.declared.packet.Packet.{Packet}
use Rattle.fs_window.specs.declared.sent.Sent.{Sent}
use Rattle.fs_record.specs.declared.led_end.LedEnd.TheVariants as led_end
use Rattle.fs_msg.specs.declared.answer.Answer.{Answer}
use Rattle.fs_msg.specs.declared.answer.Answer.TheVariants as answer
use Rattle.fs_msg.specs.declared.client_msg.ClientMsg.{ClientMsg}
use Rattle.fs_msg.specs.declared.client_msg.ClientMsg.TheVariants.{Ask, Release, Renew, Ship, Lead}
use Rattle.fs_msg.specs.declared.note.Note.{Note}
use Rattle.fs_msg.specs.declared.note.Note.TheVariants as note
use Rattle.fs_actor.specs.Hearing.{heard_in, quiet_note}
use Rattle.fs_client.specs.Answers.{answer_plan}
use Rattle.fs_server.specs.Step.{step}
use Rattle.fs_server.specs.declared.event.ServerEvent.{ServerEvent}
use Rattle.fs_server.specs.declared.event.ServerEvent.TheVariants.{FromClient, FromPeer, Turn as TheTurn, Recall as TheRecall}
use Rattle.fs_server.specs.declared.event.ServerEvent.TheVariants.{Move as TheMove}
use Rattle.fs_server.specs.declared.state.Server.{Server as Core}
use Rattle.fs_schedule.specs.declared.event.Head.TheVariants.{Servers}
use Rattle.fs_schedule.specs.declared.event.What.{What}
use Rattle.fs_schedule.specs.declared.event.What.TheVariants.{Join, Do, Tell, Turn, Recall, Move}
use Rattle.fs_serial.specs.Cluster.{Cluster, IsThere, Lines, after_step, is_with, parcels_of, without_first}
use Rattle.fs_serial.specs.EndedLeases.{asker_of, session_of_txn}
use Rattle.fs_serial.specs.Owed.{ends_with, taken_leads}
use Rattle.fs_serial.proofs.Lists.SetAt.{In_without, get_here, set_same}
use Rattle.fs_serial.specs.Refusals.{rows_in}
use Rattle.fs_serial.specs.declared.in_flight.InFlight.{InFlight}
use Rattle.fs_serial.specs.Joined.{rows_of_all}
use Rattle.fs_world.specs.Calls.{without_message}
use Rattle.fs_world.specs.Carried.{Carries, GivesFirst, AreFirstOf, between, downs_of, joined_at, post_of, state_post}
use Rattle.fs_world.specs.Order.{Tale, ended_in}
use Rattle.fs_world.specs.Packets.{first_undelivered}
use Rattle.fs_world.specs.Parts.{lines_in, lines_of}
use Rattle.fs_world.specs.Served.{SessionStepped, ServerStepped, Stepped, arrives, at_server, comes, do_at, join_at, server_step_at}
use Rattle.fs_world.specs.Served.{server_receive_packet, server_receive_packet_at, step_of, tell_at, client_receive_packet_at, turn_at}
use Rattle.fs_world.specs.Served.{flying_without_each, with_session, with_server, without_joined, without_up}
use Rattle.fs_world.specs.Refusals.{IsFairAnswer, IsFairLed, IsOwnTxn, packet_delivered, sender_of, session_at}
use Rattle.fs_world.specs.World.{may_happen}
use Rattle.fs_world.specs.declared.form.Form.TheVariants.{Served as ServedForm}
use Rattle.fs_world.specs.declared.servers.session_state.SessionState.{SessionState}
use Rattle.fs_world.specs.declared.servers.world.Served.{Served}
use Rattle.fs_world.proofs.EndedOnward.{Ended, IsAlike, all_alike, all_onward, ended_then, lead_of, step_led, steps, steps_are}
use Rattle.fs_world.proofs.HeardEach.{AreNext as AreAnswersNext, answers_in, heard_is as answers_heard, heard_notes as answers_noted}
use Rattle.fs_world.proofs.HeardEach.{notes_all, session_after}
use Rattle.fs_world.proofs.LinkedStates.{got_here}
use Rattle.fs_world.proofs.OwnSessions.{own_before, own_more}
use Rattle.fs_world.proofs.Right.{Fairness, HearsFair, IsRight, TakesEvent, answer_right, event_right, turn_right}
use Rattle.fs_world.proofs.SerialLaws.{SerialLaws, timed}
use Rattle.fs_world.proofs.ServedEach.{few_up, later_next, no_second, one_holds, parts_at}
use Rattle.fs_world.proofs.ServedHolds.{Holds, Parts, cluster_of}
use Rattle.fs_world.proofs.ServedSteps.{to_there}
use Rattle.fs_world.proofs.ServerEach.{heard_is, heard_notes, server_notes, taking, taking_all}
use Rattle.fs_world.proofs.ServerHolds.{clock, flying_there, question_there}
use Rattle.fs_world.proofs.ServerNext.{AreNext, events_in, flying_alike}
use Rattle.fs_world.proofs.SessionSteps.{HoldsOf, heard_next, one_asked, parts_of}

-- what the event notes is right
abbrev pub AllRight : Fairness → List Note → Type 0
AllRight ok notes = AllByRecursion (IsRight ok) notes

quiet : (ok : Fairness) (x : Heard) → AllRight ok (quiet_note x ∷ [])
quiet ok x = elim (x.fresh == 0) as (λ b. AllRight ok (cond b note.None note.Part ∷ [])) [
  | true ↦ (record { plain = refl; fair = tt }, tt)
  | false ↦ (record { plain = refl; fair = tt }, tt)
]

-- the question is the first of the server's, as it was found
question_found : (k : ℕ) (up : List (ℕ × ClientMsg)) (m : ℕ × ClientMsg) → find (is_with k) up ≡ Some m
    → find (is_with k) up ≡ Some (k, m.1)
question_found k up m first = first ∙ ap (λ (j : ℕ). let o : Option (ℕ × ClientMsg) = Some (j, m.1) in
    o) (eqb-true m.0 k (found (is_with k) up m first).1)

-- what a client notes of the next answers of a server, one after another, where what it hears is fair to note
notes_right : (answers : List Answer) (laws : SerialLaws) (count skew greatest : ℕ) (tale : Tale) (w : Served)
    (h : HoldsOf (timed laws) count skew greatest tale w) (now : ℕ) (within : greatest ≤ now + skew) (some : 1 ≤ count)
    (s : Session) (state : SessionState) (at : get w.sessions s.0 ≡ Some state) (k : ℕ) (ok : Fairness)
    → ((a : Answer) → In (k, a) state.down → HearsFair ok a) → AreAnswersNext k answers state.down
    → AllRight ok (notes_all now k answers state.client)
notes_right [] laws count skew greatest tale w h now within some s state at k ok hears next = tt
notes_right (a ∷ answers) laws count skew greatest tale w h now within some s state at k ok hears next =
    let own : lines_of w.term w.sessions s ≡ lines_in w.term s (Some state) = ap (lines_in w.term s) at in
    let one = session_after now k (a ∷ []) state.post state in
    let between : Tale = record {
      told =
          tale.told ++ ended_in s (tale.leads s) (note.Client (answer_plan state.client now k a).out.note ∷ []);
      leads = tale.leads;
    } in
    let v : Served = record w { sessions = insert w.sessions s.0 one } in (
      subst (λ (n : Lines). IsRight ok (note.Client (answer_plan n.client now k a).out.note)) own
          (answer_right ok (lines_of w.term w.sessions s).client now k a (hears a (found (is_with k) state.down (k, a) next.0).0)
          (laws.client_plain skew greatest now k a s (cluster_of h.replied (parts_of w)) (ap (λ (n : Lines). find (is_with k) n.down) own
          ∙ next.0) h.cluster.all.holds)),
      notes_right answers laws count skew (max greatest now) between v (heard_next (timed laws) count skew greatest tale w h now within
          some s state at k a state.post next.0) now (omega (arith, within)) some s one (got_here w.sessions s one) k ok
          (λ b i. hears b (In_without (is_with k) state.down (k, b) i)) next.1,
    )

-- what a server notes of the next messages of another one, one after another
peers_right : (es : List ServerEvent) (laws : SerialLaws) (count skew greatest : ℕ) (tale : Tale) (p : Parts) (x : ServerStepped) (k : ℕ)
    (c : Core) (at : slice_get p.servers k ≡ Some c) (h : Holds (timed laws) count skew greatest tale (parts_at p k x))
    (now : ℕ) (within : greatest ≤ now + skew) (i : ℕ) (ok : Fairness)
    → ((txn : TxnNo) (by : Session) → session_of_txn (slice_set p.servers k x.server) None txn ≡ Some by → ok.own txn by)
    → ((by : Session) (lease : LeaseNo) (until reading : ℕ) → Ended (parts_at p k (steps k (Server i) now es x)) by lease until reading
    → ok.ended by lease until reading)
    → AreNext k (Server i) es x.sessions x.in_flight → AllRight ok (server_notes now es x.server)
peers_right [] laws count skew greatest tale p x k c at h now within i ok own ended next = tt
peers_right (e ∷ es) laws count skew greatest tale p x k c at h now within i ok own ended next =
    let q = next.0 in
    let v = parts_at p k x in
    let here : slice_get v.servers k ≡ Some x.server = get_here p.servers k c x.server at in
    let y : ServerStepped = taking k now e (without_message k (Server i) x) in
    let then = one_holds (timed laws) count skew greatest tale p x k c at h now within (Server i) e q in
    let later = later_next k (Server i) now e es x next in
    let onward = all_onward es laws count skew (max greatest now) tale p y k c at then now (omega (arith, within)) i later in
    let right : IsRight ok (note.Server (step x.server now (FromPeer i q.flies.message)).out.note) =
    event_right laws skew greatest now k x.server (cluster_of h.replied v) here h.cluster
    (clock (timed laws) count skew greatest tale v h now k x.server here) within ok (FromPeer i q.flies.message)
    (flying_there (timed laws) count skew greatest tale v h now k x.server here i q.flies q.first) tt own
    (λ by lease until reading z. ended by lease until reading (onward.still by lease until reading
    (ended_then laws count skew greatest tale p x k c at h now within i e q by lease until reading z))) in (
      subst (λ (f : ServerEvent). IsRight ok (note.Server (step x.server now f).out.note)) (sym q.is) right,
      peers_right es laws count skew (max greatest now) tale p y k c at then now (omega (arith, within)) i ok
          (λ txn by z. own txn by (own_before p.servers k now i q.flies.message c x.server at txn by
          (ap (λ (f : ServerEvent). session_of_txn (slice_set p.servers k (step x.server now f).server) None txn) (sym q.is) ∙ z)))
          ended later,
    )

module _ (laws : SerialLaws) (count skew greatest : ℕ) (tale : Tale) (w : Served) (h : HoldsOf (timed laws) count skew greatest tale w)
    (now : ℕ) (within : greatest ≤ now + skew) (some : 1 ≤ count) where
  abbrev rows_at : Served → List Row
  rows_at v = rows_of_all v.servers (parcels_of v.in_flight)

  -- what is fair in the event, which leads to this world
  abbrev fair_with : What → Option Peer → List Row → Fairness
  fair_with what who rows = record {
    answers = IsFairAnswer (ServedForm w) (record { reading = now; what = what }) rows;
    own = IsOwnTxn (ServedForm w) what;
    ended = IsFairLed (ServedForm w) rows;
    who = who;
  }

  abbrev fair_at : What → Peer → Served → Fairness
  fair_at what who v = fair_with what (Some who) (rows_at v)

  abbrev Right : What → Stepped → Type 0
  Right what x = AllRight (fair_with what x.outcome.who (rows_at x.world)) x.outcome.notes

  abbrev seen : Cluster
  seen = cluster_of h.replied (parts_of w)

  module _ (what : What) where
    -- ## At a session

    join_right : (s : Session) (o : Option SessionState) → Right what (join_at o s w)
    join_right s None = (record { plain = refl; fair = tt }, tt)
    join_right s (Some state) = (record { plain = refl; fair = tt }, tt)

    do_right : (s : Session) (op : Op) (o : Option SessionState) → Right what (do_at o now s op w)
    do_right s op None = (record { plain = refl; fair = tt }, tt)
    do_right s op (Some state) = (record { plain = refl; fair = tt }, tt)

    turns_right : (s : Session) (o : Option SessionState) → Right what (turn_at o now s w)
    turns_right s None = (record { plain = refl; fair = tt }, tt)
    turns_right s (Some state) = (turn_right (fair_at what (Client s) w) state.client now, tt)

    -- a session hears that what it had led is refused where that lease had ended
    hears_fair : (s : Session) (k : ℕ) (state : SessionState) → get w.sessions s.0 ≡ Some state → (a : Answer) → In (k, a) state.down
        → HearsFair (fair_at what (Client s) w) a
    hears_fair s k state at a i lease until reading is =
        let own : lines_of w.term w.sessions s ≡ lines_in w.term s (Some state) = ap (lines_in w.term s) at in (
          s,
          refl,
          lead_of seen w s lease until reading refl (h.cluster.fair.told s k lease until reading
              (subst (λ (n : Lines). In (k, answer.Led (led_end.Ended lease until reading)) n.down) (sym own)
              (subst (λ b. In (k, b) state.down) is i))),
        )

    heard_right : (s : Session) (k : ℕ) (state : SessionState) (x : Heard) (answers : List Answer) → get w.sessions s.0 ≡ Some state
        → AreAnswersNext k answers state.down → AllRight (fair_at what (Client s) w) (answers_noted x now k answers state.client)
    heard_right s k state x [] at next = quiet (fair_at what (Client s) w) x
    heard_right s k state x (a ∷ answers) at next = notes_right (a ∷ answers) laws count skew greatest tale w h now within some s state at
        k (fair_at what (Client s) w) (hears_fair s k state at) next

    told_right : (s : Session) (k : ℕ) (p : Packet) (o : Option SessionState) → get w.sessions s.0 ≡ o
        → AreFirstOf (joined_at (state_post o) (Server k) p) (downs_of k o) → Right what (client_receive_packet_at o now s k p w)
    told_right s k p None at f = (record { plain = refl; fair = tt }, tt)
    told_right s k p (Some state) at f =
        let a = post_accepted state.post (Server k) p in
        let there : SessionState = record state { post = a.links } in
        let heard = answers_in k a.heard.joined state.down f in
        subst (λ (x : SessionStepped). Right what (with_session s x w))
        (sym (answers_heard s now k (heard_in (Server k) p) a.heard heard.0 there w.journal w.packets heard.1))
        (heard_right s k state a.heard heard.0 at heard.2)

    -- ## At a server that there is

    module _ (k : ℕ) (c : Core) (post : Links) (at : slice_get w.servers k ≡ Some c) where
      -- what is fair in this event, after which these are all rows
      abbrev fair_after : ServerEvent → Fairness
      fair_after e = fair_with what (Some (Server k)) (rows_in (after_step k e (step c now e) seen))

      abbrev TakesIt : ServerEvent → Type 0
      TakesIt e = TakesEvent laws skew greatest now k c seen at h.cluster (clock (timed laws) count skew greatest tale (parts_of w) h now k
          c at) within (fair_after e).answers e

      -- where a session asks in it, the event tells a packet of that one
      event : (e : ServerEvent) → IsThere k e seen → TakesIt e
          → ((by : Session) → asker_of e ≡ Some by → sender_of (packet_delivered w what) ≡ Some by)
          → IsRight (fair_after e) (note.Server (step c now e).out.note)
      event e there takes asked = event_right laws skew greatest now k c seen at h.cluster
          (clock (timed laws) count skew greatest tale (parts_of w) h now k c at) within (fair_after e) e there takes
          (λ txn by z. own_more w.servers (asker_of e) (sender_of (packet_delivered w what)) txn by asked z)
          (λ by lease until reading z. lead_of (after_step k e (step c now e) seen) w by lease until reading (step_led k now e c seen by) z)

      -- the event tells a packet of the session to this server
      module _ (packet : Sent) (delivered_so : packet_delivered w what ≡ Some packet) (here : packet.to ≡ Server k) where
        takes_log : (s : Session) (state : SessionState) (m : ClientMsg) → packet.from ≡ Client s → get w.sessions s.0 ≡ Some state
            → find (is_with k) state.up ≡ Some (k, m) → TakesIt (FromClient s m)
        takes_log s state (Ship entries) from is first = λ n e gaps fair. (
          record {
            packet = packet;
            delivered = delivered_so;
            by = s;
            sender = from;
            to = k;
            addressee = here;
            server = c;
            there =
                at;
            state = state;
            joined = is;
            entries = entries;
            first = first;
          },
          fair,
        )
        takes_log s state (Ask items dir) from is first = tt
        takes_log s state (Renew pairs) from is first = tt
        takes_log s state (Release pairs) from is first = tt
        takes_log s state (Lead m) from is first = tt

        -- it is one message at most
        session_right : (s : Session) (x : Heard) (es : List ServerEvent) → packet.from ≡ Client s
            → AreNext k (Client s) es w.sessions w.in_flight → (y : ServerStepped) → y.server ≡ c
            → y.in_flight ≡ flying_without_each k (Client s) es w.in_flight
            → AllRight (fair_at what (Server k) (with_server k (taking_all k now es y) w).world) (heard_notes x now es c)
        session_right s x [] from next y is flies = quiet _ x
        session_right s x (e ∷ []) from next y is flies =
            let q = next.0 in
            let asked = FromClient s q.asked.1 in
            let right : IsRight (fair_after asked) (note.Server (step c now asked).out.note) =
            event asked (question_there (timed laws) count skew greatest tale (parts_of w) h now k c at s q.state q.asked q.there q.first)
            (takes_log s q.state q.asked.1 from q.there (question_found k q.state.up q.asked q.first))
            (λ by z. ap sender_of delivered_so ∙ ap session_at from ∙ z) in
            let after : AllRight
            (fair_at what (Server k) (with_server k (taking k now asked (record y { server = c; in_flight = w.in_flight })) w).world)
            (heard_notes x now (asked ∷ []) c) = (right, tt) in
            let placed : record y { server = c; in_flight = w.in_flight } ≡ y =
            λ i. record y { server = sym is i; in_flight = sym flies i } in
            subst (λ (f : ServerEvent). AllRight (fair_at what (Server k) (with_server k (taking k now f y) w).world)
            (heard_notes x now (f ∷ []) c)) (sym q.is)
            (subst (λ (z : ServerStepped). AllRight (fair_at what (Server k) (with_server k (taking k now asked z) w).world)
            (heard_notes x now (asked ∷ []) c)) placed after)
        session_right s x (e ∷ f ∷ es) from next y is flies =
            let q = next.0 in
            let r = next.1.0 in
            let left : SessionState = record q.state { up = without_first (is_with k) q.state.up } in
            let same : left ≡ r.state =
            some_is left r.state (sym (ap (λ (o : Option SessionState). get (without_up k o s.0 w.sessions) s.0) q.there
            ∙ got_here w.sessions s left) ∙ r.there) in
            let one = one_asked (timed laws) count skew greatest tale w h now within some s q.state q.there in
            let ends = ends_with s w.servers (lines_in w.term s (Some q.state)) in
            let few = few_up ends.client ends.client.exchange q.state.up (taken_leads s ends.client.led w.servers) ends.down one in
            absurd (no_second (is_with k) q.state.up q.asked r.asked few q.first
            (ap (λ (z : SessionState). find (is_with k) z.up) same ∙ r.first))

      server_receives : (packet : Sent) (from : Peer) (p : Packet) → packet_delivered w what ≡ Some packet → packet.to ≡ Server k
          → packet.from ≡ from → AreFirstOf (post_accepted post from p).heard.joined (between w from (Server k))
          → Right what (with_server k (server_receive_packet now k from p (at_server c post w)) w)
      server_receives packet from p delivered_so here is f =
          let a = post_accepted post from p in
          let js = a.heard.joined in
          let x : ServerStepped = without_joined k from js (record (at_server c post w) { post = a.links }) in
          let es = events_in w k from js f in
          subst (λ (y : ServerStepped). Right what (with_server k y w)) (sym (heard_is k now from (heard_in from p) a.heard es.0 x es.1))
          (noted from is a.heard es.0 es.2 x refl (flying_alike k from js es.0 w.in_flight es.1))
        where
          noted : (from : Peer) → packet.from ≡ from → (y : Heard) (es : List ServerEvent) → AreNext k from es w.sessions w.in_flight
              → (x : ServerStepped) → x.server ≡ c → x.in_flight ≡ flying_without_each k from es w.in_flight
              → AllRight (fair_at what (Server k) (with_server k (taking_all k now es x) w).world) (heard_notes y now es x.server)
          noted (Client s) is y es next x server flies =
              subst (λ (d : Core). AllRight (fair_at what (Server k) (with_server k (taking_all k now es x) w).world)
              (heard_notes y now es d)) (sym server) (session_right packet delivered_so here s y es is next x server flies)
          noted (Server i) is y es next x server flies =
              subst (λ (d : Core). AllRight (fair_at what (Server k) (with_server k (taking_all k now es x) w).world)
              (heard_notes y now es d)) (sym server) (others es ended next)
            where
              start : Holds (timed laws) count skew greatest tale (parts_at (parts_of w) k (at_server c post w))
              start = subst (λ (servers : List Core). Holds (timed laws) count skew greatest tale (record (parts_of w) {
                servers =
                    servers;
              })) (sym (set_same w.servers k c at)) h

              ok : Fairness
              ok = fair_at what (Server k) (with_server k (taking_all k now es x) w).world

              own : (txn : TxnNo) (by : Session) → session_of_txn (slice_set w.servers k c) None txn ≡ Some by → ok.own txn by
              own txn by z = own_more w.servers None (sender_of (packet_delivered w what)) txn by (λ u none. absurd (cc none))
                  (ap (λ (servers : List Core). session_of_txn servers None txn) (sym (set_same w.servers k c at)) ∙ z)

              -- the rows are those after the steps of the server
              ended : (by : Session) (lease : LeaseNo) (until reading : ℕ)
                  → Ended (parts_at (parts_of w) k (steps k (Server i) now es (at_server c post w))) by lease until reading
                  → ok.ended by lease until reading
              ended by lease until reading z =
                  let y : ServerStepped = at_server c post w in
                  let onward = all_onward es laws count skew greatest tale (parts_of w) y k c at start now within i next in
                  let last : ServerStepped = steps k (Server i) now es y in
                  let all : ServerStepped = taking_all k now es x in
                  let alike : IsAlike (taking_all k now es (without_joined k (Server i) es y)) all =
                  all_alike k now es (without_joined k (Server i) es y) x (record { server = sym server; in_flight = sym flies }) in
                  let same = steps_are k (Server i) now es y next in
                  let its : IsAlike last all = record {
                    server = ap (λ (u : ServerStepped). u.server) same ∙ alike.server;
                    in_flight = ap (λ (u : ServerStepped). u.in_flight) same ∙ alike.in_flight;
                  } in
                  subst (λ (rows : List Row). IsFairLed (ServedForm w) rows by lease until reading)
                  (ap₂ (λ (d : Core) (fs : List InFlight). rows_of_all (slice_set w.servers k d) (parcels_of fs)) its.server its.in_flight)
                  (lead_of (cluster_of (λ u. []) (parts_at (parts_of w) k last)) w by lease until reading (onward.led by) z)

              others : (fs : List ServerEvent)
                  → ((by : Session) (lease : LeaseNo) (until reading : ℕ)
                  → Ended (parts_at (parts_of w) k (steps k (Server i) now fs (at_server c post w))) by lease until reading
                  → ok.ended by lease until reading)
                  → AreNext k (Server i) fs w.sessions w.in_flight → AllRight ok (heard_notes y now fs c)
              others [] so next = quiet ok y
              others (e ∷ fs) so next = peers_right (e ∷ fs) laws count skew greatest tale (parts_of w) (at_server c post w) k c at start
                  now within i ok own so next

    -- ## At any server

    receive_packet_at_server : (k : ℕ) (packet : Sent) (from : Peer) (p : Packet) (c : Option Core) (post : Option Links)
        → packet_delivered w what ≡ Some packet → packet.to ≡ Server k → packet.from ≡ from → slice_get w.servers k ≡ c
        → AreFirstOf (joined_at post from p) (between w from (Server k)) → Right what (server_receive_packet_at c post now k from p w)
    receive_packet_at_server k packet from p (Some c) (Some post) delivered_so here is at f =
        server_receives k c post at packet from p delivered_so here is f
    receive_packet_at_server k packet from p (Some c) None delivered_so here is at f = (record { plain = refl; fair = tt }, tt)
    receive_packet_at_server k packet from p None (Some post) delivered_so here is at f = (record { plain = refl; fair = tt }, tt)
    receive_packet_at_server k packet from p None None delivered_so here is at f = (record { plain = refl; fair = tt }, tt)

    turn_at_server : (k : ℕ) (c : Option Core) (post : Option Links) → slice_get w.servers k ≡ c
        → Right what (server_step_at c post k true now TheTurn w)
    turn_at_server k (Some c) (Some post) at = (event k c post at TheTurn tt tt (λ by none. absurd (cc none)), tt)
    turn_at_server k (Some c) None at = (record { plain = refl; fair = tt }, tt)
    turn_at_server k None (Some post) at = (record { plain = refl; fair = tt }, tt)
    turn_at_server k None None at = (record { plain = refl; fair = tt }, tt)

    recall_at_server : (k : ℕ) (field : Field) (c : Option Core) (post : Option Links) → slice_get w.servers k ≡ c
        → Right what (server_step_at c post k false now (TheRecall field) w)
    recall_at_server k field (Some c) (Some post) at = (event k c post at (TheRecall field) tt tt (λ by none. absurd (cc none)), tt)
    recall_at_server k field (Some c) None at = (record { plain = refl; fair = tt }, tt)
    recall_at_server k field None (Some post) at = (record { plain = refl; fair = tt }, tt)
    recall_at_server k field None None at = (record { plain = refl; fair = tt }, tt)

    move_at_server : (k : ℕ) (prefix : List ℕ) (to : ℕ) (c : Option Core) (post : Option Links) → slice_get w.servers k ≡ c
        → to < length w.servers → Right what (server_step_at c post k false now (TheMove prefix to) w)
    move_at_server k prefix to (Some c) (Some post) at few =
        (event k c post at (TheMove prefix to) few tt (λ by none. absurd (cc none)), tt)
    move_at_server k prefix to (Some c) None at few = (record { plain = refl; fair = tt }, tt)
    move_at_server k prefix to None (Some post) at few = (record { plain = refl; fair = tt }, tt)
    move_at_server k prefix to None None at few = (record { plain = refl; fair = tt }, tt)

    -- ## A packet is told

    comes_right : (packet : Sent) (from to : Peer) (p : Packet) → packet_delivered w what ≡ Some packet → packet.from ≡ from
        → packet.to ≡ to → AreFirstOf (joined_at (post_of w to) from p) (between w from to) → Right what (comes now from to p w)
    comes_right packet (Client s) (Server k) p delivered_so of here f =
        receive_packet_at_server k packet (Client s) p (slice_get w.servers k) (slice_get w.posts k) delivered_so here of refl f
    comes_right packet (Server j) (Server k) p delivered_so of here f =
        receive_packet_at_server k packet (Server j) p (slice_get w.servers k) (slice_get w.posts k) delivered_so here of refl f
    comes_right packet (Server j) (Client s) p delivered_so of here f = told_right s j p (get w.sessions s.0) refl f
    comes_right packet (Client r) (Client s) p delivered_so of here f = (record { plain = refl; fair = tt }, tt)

    arrives_right : (packet : Sent) (p : Option Packet) → packet_delivered w what ≡ Some packet → GivesFirst w packet.from packet.to p
        → Right what (arrives now packet.from packet.to p w)
    arrives_right packet None delivered_so f = (record { plain = refl; fair = tt }, tt)
    arrives_right packet (Some p) delivered_so f = comes_right packet packet.from packet.to p delivered_so refl refl f

    tell_right : Carries w → (o : Option Sent) (k : ℕ) → packet_delivered w what ≡ o → slice_get w.packets.sent k ≡ o
        → Right what (tell_at o now k w)
    tell_right carry None k delivered_so at = (record { plain = refl; fair = tt }, tt)
    tell_right carry (Some x) k delivered_so at = arrives_right x (packet_at x.bytes) delivered_so (carry x (In-got w.packets.sent k x at))

  -- ## Each event

  pub step_right : Carries w → (term : ℕ) (what : What) → may_happen (Servers count skew term) what ≡ true → Right what (step_of w now what)
  step_right carry term (Join s) may = join_right (Join s) s (get w.sessions s.0)
  step_right carry term (Do s o) may = do_right (Do s o) s o (get w.sessions s.0)
  step_right carry term (Tell None) may = tell_right (Tell None) carry (slice_get w.packets.sent (first_undelivered w.packets.delivered))
      (first_undelivered w.packets.delivered) refl refl
  step_right carry term (Tell (Some k)) may = tell_right (Tell (Some k)) carry (slice_get w.packets.sent k) k refl refl
  step_right carry term (Turn (Client s)) may = turns_right (Turn (Client s)) s (get w.sessions s.0)
  step_right carry term (Turn (Server k)) may = turn_at_server (Turn (Server k)) k (slice_get w.servers k) (slice_get w.posts k) refl
  step_right carry term (Recall k field) may = recall_at_server (Recall k field) k field (slice_get w.servers k) (slice_get w.posts k) refl
  step_right carry term (Move k prefix to) may =
      move_at_server (Move k prefix to) k prefix to (slice_get w.servers k) (slice_get w.posts k) refl
      (to_there (timed laws) count skew greatest tale w h now within some to (both (nat_lt k count) (nat_lt to count) may).1)
