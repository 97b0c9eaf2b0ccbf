-- Every event of a session keeps what holds of a world of the servers form.
use Rattle.std.proofs.Common.{◌≡◌, ℕ, ◌≤◌, max, ◌==◌, true, false, cond, List, [], ◌∷◌, ◌++◌, append-nil, append_assoc, refl, ap, sym, ◌∙◌}
use Rattle.std.proofs.Common.{subst, arith}
use Rattle.std.specs.Prelude.{Option, Some, None}
use Rattle.std.specs.FinMap.{get, insert}
use Rattle.std.specs.List.{find}
use Rattle.fs_ident.specs.declared.actor.Peer.TheVariants.{Server}
use Rattle.fs_ident.specs.declared.actor.Session.{Session}
use Rattle.fs_ident.proofs.Passing.{found}
use Rattle.fs_window.specs.Post.{Links, post_accepted, post_due}
use Rattle.fs_window.specs.declared.heard.Heard.{Heard}
use Rattle.fs_window.specs.declared.packet.Packet.{Packet}
use Rattle.fs_model.specs.declared.op.Op.{Op}
use Rattle.fs_msg.specs.declared.answer.Answer.{Answer}
use Rattle.fs_msg.specs.declared.client_msg.ClientMsg.{ClientMsg}
use Rattle.fs_msg.specs.declared.item.Item.{Item}
use Rattle.fs_msg.specs.declared.note.Note.{Note}
use Rattle.fs_msg.specs.declared.note.Note.TheVariants as note
use Rattle.fs_schedule.specs.declared.event.What.TheVariants.{Tell}
use Rattle.fs_actor.specs.Hearing.{heard_in, quiet_note as unjoined}
use Rattle.fs_client.specs.Acts.{act_plan}
use Rattle.fs_client.specs.Answers.{answer_plan}
use Rattle.fs_client.specs.Client.{committed}
use Rattle.fs_client.specs.Turns.{turn_plan}
use Rattle.fs_client.specs.declared.led.Led.{Led}
use Rattle.fs_client.specs.declared.plan.Plan.{Plan}
use Rattle.fs_client.specs.declared.state.Client.{Client as ClientCore}
use Rattle.fs_serial.specs.Cluster.{Cluster, Lines, after_plan, is_with, without_first}
use Rattle.fs_serial.specs.Cluster.ClientEvent.{Does, Hears, Turns}
use Rattle.fs_serial.specs.Exchange.{OneExchange}
use Rattle.fs_serial.specs.Owed.{ends_with, owed_to}
use Rattle.fs_serial.specs.Seen.{IsAddressed}
use Rattle.fs_serial.specs.World.{Ends, is_called, pushed}
use Rattle.fs_serial.proofs.ClientMessages.SessionStates.{idle_due}
use Rattle.fs_world.specs.Carried.{AreFirstOf, downs_of, joined_at, state_post}
use Rattle.fs_world.specs.Order.{Leads, Tale, ReplyGiven, ended_in, leads_in, replies_in, reply_given, told_at as told_in, told_with}
use Rattle.fs_world.specs.Parts.{lines_in, lines_of}
use Rattle.fs_world.specs.Served.{SessionStepped, SessionStates, client_acts, client_turns, do_at, join_at, client_receive_packet_at}
use Rattle.fs_world.specs.Served.{turn_at, up_after, with_read, with_session}
use Rattle.fs_world.specs.declared.servers.session_state.SessionState.{SessionState}
use Rattle.fs_world.specs.declared.servers.world.Served.{Served}
use Rattle.fs_world.proofs.Fine.{act_fine, answer_fine, turn_fine}
use Rattle.fs_world.proofs.HeardEach.{AreNext, answers_in, heard_is, heard_notes, notes_all, session_after}
use Rattle.fs_world.proofs.LinkedStates.{got_here, put_again}
use Rattle.fs_world.proofs.NamedClients.{answer_admits, answer_silent}
use Rattle.fs_world.proofs.SerialLaws.{AsksOne, EventLaws}
use Rattle.fs_world.proofs.ServedHolds.{Holds, Parts, a_server, client_holds, cluster_of, holds_joined, holds_later, holds_posted}
use Rattle.fs_world.proofs.ServedHolds.{holds_untold, untold as all_untold, with_sessions}
use Rattle.fs_world.proofs.ClientTelling.{act_tells, hear_tells, quiet_note, turn_tells}

abbrev pub parts_of : Served → Parts
parts_of w = record { term = w.term; servers = w.servers; sessions = w.sessions; in_flight = w.in_flight; journal = w.journal }

abbrev pub HoldsOf : EventLaws → ℕ → ℕ → ℕ → Tale → Served → Type 0
HoldsOf laws count skew greatest tale w = Holds laws count skew greatest tale (parts_of w)

-- a packet that gives no message ends nothing
unjoined_quiet : (x : Heard) → reply_given (unjoined x) ≡ None
unjoined_quiet x = elim (x.fresh == 0) as (λ b. reply_given (cond b note.None note.Part) ≡ None) [ true ↦ refl | false ↦ refl ]

-- as two definitions write it
up_pushed : (send : Option (ℕ × ClientMsg)) (up : List (ℕ × ClientMsg)) → up_after send up ≡ pushed send up
up_pushed None up = refl
up_pushed (Some m) up = refl

read_pushed : (o : Option Item) (journal : List Item) → pushed o journal ≡ with_read o journal
read_pushed None journal = refl
read_pushed (Some i) journal = refl

module _ (laws : EventLaws) (count skew greatest : ℕ) (tale : Tale) (w : Served) (h : HoldsOf laws count skew greatest tale w) (now : ℕ)
    (within : laws.Within skew greatest now) (some : 1 ≤ count) where
  -- this was told, and the world is this
  abbrev pub Then : List ReplyGiven → Leads → Served → Type 0
  Then new leads v = HoldsOf laws count skew (max greatest now) (record { told = tale.told ++ new; leads = leads }) v

  pub later : HoldsOf laws count skew (max greatest now) tale w
  later = holds_later laws count skew greatest tale (parts_of w) h (max greatest now) (omega arith)

  pub untold : (v : Served) → HoldsOf laws count skew (max greatest now) tale v → Then [] tale.leads v
  untold v k = holds_untold laws count skew (max greatest now) tale (parts_of v) k

  pub still : Then [] tale.leads w
  still = untold w later

  abbrev seen : Cluster
  seen = cluster_of h.replied (parts_of w)

  module _ (s : Session) (state : SessionState) (at : get w.sessions s.0 ≡ Some state) where
    abbrev sits : Lines
    sits = lines_in w.term s (Some state)

    own : lines_of w.term w.sessions s ≡ sits
    own = ap (lines_in w.term s) at

    owned : state.client.session ≡ s
    owned =
        let server = a_server w.servers (subst (λ (n : ℕ). 1 ≤ n) (sym h.many) some) in
        ap (λ (n : Lines). n.client.session) (sym own) ∙ laws.owned skew greatest server.0 seen s server.1 h.cluster

    -- ## Nothing but the links changes

    posted : (next : SessionState) → lines_in w.term s (Some next) ≡ sits
        → Holds laws count skew (max greatest now) (all_untold tale) (with_sessions (insert w.sessions s.0 next) (parts_of w))
    posted next e = holds_untold laws count skew (max greatest now) tale (with_sessions (insert w.sessions s.0 next) (parts_of w))
        (holds_posted laws count skew (max greatest now) tale (parts_of w) later s state at next e)

    -- ## The client does something

    abbrev lines_after : {N : Type 0} → Plan N → List (ℕ × ClientMsg) → List (ℕ × Answer) → Lines
    lines_after p up rest = record { client = committed p.ready state.client; up = up; down = rest }

    -- the state is as planned
    as_planned : {N : Type 0} (p : Plan N) (next : SessionState) (rest : List (ℕ × Answer))
        → lines_in w.term s (Some next) ≡ lines_after p (up_after p.out.send state.up) rest
        → lines_in w.term s (Some next) ≡ lines_after p (pushed p.out.send state.up) rest
    as_planned p next rest e = e ∙ ap (λ (up : List (ℕ × ClientMsg)). lines_after p up rest) (up_pushed p.out.send state.up)

    abbrev parts_with : SessionState → List Item → Parts
    parts_with next journal = record (parts_of w) { sessions = insert w.sessions s.0 next; journal = journal }

    journal_is : (o : Option Item) (new : List ReplyGiven) (leads : Leads) (next : SessionState)
        → Holds laws count skew (max greatest now) (record { told = tale.told ++ new; leads = leads })
        (parts_with next (pushed o w.journal)) → Holds laws count skew (max greatest now) (record {
          told = tale.told ++ new;
          leads =
              leads;
        }) (parts_with next (with_read o w.journal))
    journal_is o new leads next k = subst (λ journal. Holds laws count skew (max greatest now) (record {
      told = tale.told ++ new;
      leads =
          leads;
    }) (parts_with next journal)) (read_pushed o w.journal) k

    -- it asks one question at a time
    asks : AsksOne seen s
    asks =
        let server = a_server w.servers (subst (λ (n : ℕ). 1 ≤ n) (sym h.many) some) in
        laws.exchanges skew greatest server.0 seen s server.1 h.cluster

    abbrev pub ends_here : Ends
    ends_here = ends_with s w.servers sits

    pub one_asked : OneExchange state.client state.client.exchange ends_here.up ends_here.down
    one_asked =
        subst (λ (n : Lines). let e : Ends = ends_with s w.servers n in OneExchange e.client e.client.exchange e.up e.down) own asks.one

    asked : (d : Led) → state.client.led ≡ Some d → tale.leads s ≡ Some d.entry.op
    asked = subst (λ (n : Lines). (d : Led) → n.client.led ≡ Some d → tale.leads s ≡ Some d.entry.op) own (h.answered s).asked

    addressed : IsAddressed sits
    addressed = subst IsAddressed own asks.addressed

    acts : (o : Op) → is_called o ≡ true → Then (replies_in s o (note.Act (act_plan state.client now o).out.note ∷ []))
        (leads_in s o (note.Act (act_plan state.client now o).out.note ∷ []) tale.leads)
        (with_session s (client_acts now s o state w.journal w.packets) w).world
    acts o called =
        let p = act_plan state.client now o in
        let next = (client_acts now s o state w.journal w.packets).state in
        let new = replies_in s o (note.Act p.out.note ∷ []) in
        let leads = leads_in s o (note.Act p.out.note ∷ []) tale.leads in
        journal_is p.out.admitted new leads next (client_holds laws count skew greatest tale (parts_of w) h s state at now within (Does o)
        state.down p next new leads
        (ap (λ (n : Lines). after_plan s n.down (act_plan n.client now o) seen) own)
        called
        (as_planned p next state.down refl)
        (act_fine state.client now o called)
        (act_tells s o state.client now owned ends_here.down
        (λ e. (idle_due state.client state.client.exchange ends_here.up ends_here.down e one_asked).1) tale.leads))

    turns : Then [] tale.leads (with_session s (client_turns now s state w.journal w.packets) w).world
    turns =
        let p = turn_plan state.client now in
        let next = (client_turns now s state w.journal w.packets).state in
        journal_is p.out.admitted [] tale.leads next (client_holds laws count skew greatest tale (parts_of w) h s state at now within Turns
        state.down p next [] tale.leads
        (ap (λ (n : Lines). after_plan s n.down (turn_plan n.client now) seen) own)
        tt
        (as_planned p next state.down refl)
        (turn_fine state.client now)
        (turn_tells s state.client now ends_here.down tale.leads))

    -- ## Its client hears an answer

    -- the next one of a server that is on its way
    pub heard_next : (k : ℕ) (a : Answer) (post : Links) → find (is_with k) state.down ≡ Some (k, a)
        → Then (ended_in s (tale.leads s) (note.Client (answer_plan state.client now k a).out.note ∷ [])) tale.leads (record w {
          sessions =
              insert w.sessions s.0 (session_after now k (a ∷ []) post state);
        })
    heard_next k a post first =
        let p = answer_plan state.client now k a in
        let next = session_after now k (a ∷ []) post state in
        let rest = without_first (is_with k) state.down in
        let new = ended_in s (tale.leads s) (note.Client p.out.note ∷ []) in
        subst (λ (o : Option Item). Holds laws count skew (max greatest now) (record {
          told = tale.told ++ new;
          leads =
              tale.leads;
        }) (parts_with next (pushed o w.journal))) (answer_admits state.client now k a)
        (client_holds laws count skew greatest tale (parts_of w) h s state at now within (Hears k a) rest p next new tale.leads
        (ap (λ (n : Lines). after_plan s (without_first (is_with k) n.down) (answer_plan n.client now k a) seen) own)
        (ap (λ (n : Lines). find (is_with k) n.down) own ∙ first)
        (ap (λ (m : Option (ℕ × ClientMsg)). lines_after p (pushed m state.up) rest) (sym (answer_silent state.client now k a)))
        (answer_fine state.client now k a)
        (hear_tells s k state.client now ends_here.up (owed_to s w.servers) state.down one_asked tale.leads asked a first
        (λ e. addressed.down (k, a) (found (is_with k) state.down (k, a) first).0 e)))

  -- ## Each event at a session

  pub join_holds : (s : Session) (o : Option SessionState) → get w.sessions s.0 ≡ o → Then [] tale.leads (join_at o s w).world
  join_holds s None at = untold (join_at None s w).world (holds_joined laws count skew (max greatest now) tale (parts_of w) later s at)
  join_holds s (Some state) at = still

  pub do_holds : (s : Session) (op : Op) (o : Option SessionState) → get w.sessions s.0 ≡ o → is_called op ≡ true
      → Then (replies_in s op (do_at o now s op w).outcome.notes) (leads_in s op (do_at o now s op w).outcome.notes tale.leads)
      (do_at o now s op w).world
  do_holds s op None at called = still
  do_holds s op (Some state) at called = acts s state at op called

  pub turn_holds : (s : Session) (o : Option SessionState) → get w.sessions s.0 ≡ o → Then [] tale.leads (turn_at o now s w).world
  turn_holds s None at = still
  turn_holds s (Some state) at = turns s state at

-- ## A packet comes to a session

none_ended : (s : Session) (lead : Option Op) → ended_in s lead [] ≡ []
none_ended s None = refl
none_ended s (Some o) = refl

ended_more : (s : Session) (lead : Option Op) (n : Note) (ns : List Note)
    → ended_in s lead (n ∷ []) ++ ended_in s lead ns ≡ ended_in s lead (n ∷ ns)
ended_more s None n ns = refl
ended_more s (Some o) n ns = ap (λ (ts : List ReplyGiven). ts ++ ended_in s (Some o) ns) (append-nil (told_with s o (reply_given n)))

-- its client hears the next answers of a server, one after another
all_heard : (answers : List Answer) (laws : EventLaws) (count skew greatest : ℕ) (tale : Tale) (w : Served)
    (h : HoldsOf laws count skew greatest tale w) (now : ℕ) (within : laws.Within skew greatest now) (some : 1 ≤ count)
    (s : Session) (state : SessionState) (at : get w.sessions s.0 ≡ Some state) (k : ℕ) (post : Links) → AreNext k answers state.down
    → HoldsOf laws count skew (max greatest now)
    (record {
      told = tale.told ++ ended_in s (tale.leads s) (notes_all now k answers state.client);
      leads =
          tale.leads;
    }) (record w { sessions = insert w.sessions s.0 (session_after now k answers post state) })
all_heard [] laws count skew greatest tale w h now within some s state at k post next =
    let v : Served = record w { sessions = insert w.sessions s.0 (session_after now k [] post state) } in
    subst (λ (ts : List ReplyGiven). HoldsOf laws count skew (max greatest now) (record { told = tale.told ++ ts; leads = tale.leads }) v)
    (sym (none_ended s (tale.leads s)))
    (posted laws count skew greatest tale w h now within some s state at (session_after now k [] post state) refl)
all_heard (a ∷ answers) laws count skew greatest tale w h now within some s state at k post next =
    let note_of : Note = note.Client (answer_plan state.client now k a).out.note in
    let one = session_after now k (a ∷ []) post state in
    let all = session_after now k (a ∷ answers) post state in
    let lead = tale.leads s in
    let first = ended_in s lead (note_of ∷ []) in
    let rest = ended_in s lead (notes_all now k answers one.client) in
    let between : Tale = record { told = tale.told ++ first; leads = tale.leads } in
    let v : Served = record w { sessions = insert w.sessions s.0 one } in
    let then = all_heard answers laws count skew (max greatest now) between v (heard_next laws count skew greatest tale w h now within some
    s state at k a post next.0) now (laws.again skew greatest now within) some s one (got_here w.sessions s one) k post next.1 in
    let same : max (max greatest now) now ≡ max greatest now = omega arith in
    let told : (tale.told ++ first) ++ rest ≡ tale.told ++ ended_in s lead (notes_all now k (a ∷ answers) state.client) =
    append_assoc tale.told first rest
    ∙ ap (λ (ts : List ReplyGiven). tale.told ++ ts) (ended_more s lead note_of (notes_all now k answers one.client)) in
    subst (λ (sessions : SessionStates). HoldsOf laws count skew (max greatest now)
    (record {
      told = tale.told ++ ended_in s lead (notes_all now k (a ∷ answers) state.client);
      leads =
          tale.leads;
    }) (record w { sessions = sessions })) (put_again w.sessions s one all)
    (subst (λ (ts : List ReplyGiven). HoldsOf laws count skew (max greatest now) (record {
      told = ts;
      leads =
          tale.leads;
    }) (record w { sessions = insert (insert w.sessions s.0 one) s.0 all })) told
    (subst (λ (g : ℕ). HoldsOf laws count skew g (record {
      told = (tale.told ++ first) ++ rest;
      leads =
          tale.leads;
    }) (record w { sessions = insert (insert w.sessions s.0 one) s.0 all })) same then))

-- as is noted
noted_heard : (s : Session) (lead : Option Op) (x : Heard) (now k : ℕ) (answers : List Answer) (c : ClientCore)
    → ended_in s lead (notes_all now k answers c) ≡ ended_in s lead (heard_notes x now k answers c)
noted_heard s lead x now k [] c = none_ended s lead ∙ sym (quiet_note s lead (unjoined x) (unjoined_quiet x))
noted_heard s lead x now k (a ∷ answers) c = refl

pub told_holds : (laws : EventLaws) (count skew greatest : ℕ) (tale : Tale) (w : Served) (h : HoldsOf laws count skew greatest tale w)
    (now : ℕ) (within : laws.Within skew greatest now) (some : 1 ≤ count)
    (s : Session) (k : ℕ) (p : Packet) (o : Option SessionState) → get w.sessions s.0 ≡ o
    → AreFirstOf (joined_at (state_post o) (Server k) p) (downs_of k o)
    → Then laws count skew greatest tale w h now within some (told_in (Tell (Some 0)) (client_receive_packet_at o now s k p w).outcome.who
    (client_receive_packet_at o now s k p w).outcome.notes tale.leads) tale.leads (client_receive_packet_at o now s k p w).world
told_holds laws count skew greatest tale w h now within some s k p None at f = still laws count skew greatest tale w h now within some
told_holds laws count skew greatest tale w h now within some s k p (Some state) at f =
    let a = post_accepted state.post (Server k) p in
    let there : SessionState = record state { post = a.links } in
    let from = heard_in (Server k) p in
    let heard = answers_in k a.heard.joined state.down f in
    let left : Served =
    record w { sessions = insert w.sessions s.0 (session_after now k heard.0 (post_due a.links false from).links state) } in
    subst (λ (x : SessionStepped). Then laws count skew greatest tale w h now within some (ended_in s (tale.leads s) x.outcome.notes)
    tale.leads (with_session s x w).world) (sym (heard_is s now k from a.heard heard.0 there w.journal w.packets heard.1))
    (subst (λ (ts : List ReplyGiven). Then laws count skew greatest tale w h now within some ts tale.leads left)
    (noted_heard s (tale.leads s) a.heard now k heard.0 state.client)
    (all_heard heard.0 laws count skew greatest tale w h now within some s state at k (post_due a.links false from).links heard.2))
