-- What a server does with all that a packet joins: these are messages of that actor, and its core takes a step for one after another.
use Rattle.std.proofs.Common.{◌≡◌, ℕ, false, List, [], ◌∷◌, ◌++◌, length, Option, Some, None, refl, sym, ap, subst, ◌∙◌, append-nil}
use Rattle.std.proofs.Common.{append_assoc}
use Rattle.fs_ident.specs.declared.actor.Peer.{Peer}
use Rattle.fs_ident.specs.declared.actor.Peer.TheVariants.{Server, Client}
use Rattle.fs_frag.specs.declared.joined.Joined.{Joined}
use Rattle.fs_window.specs.Post.{Links, post_due}
use Rattle.fs_window.specs.declared.heard.Heard.{Heard}
use Rattle.fs_msg.specs.declared.core_error.Counter.{Counter}
use Rattle.fs_msg.specs.declared.msg.Msg.{Msg}
use Rattle.fs_msg.specs.declared.msg.Msg.TheVariants as msg
use Rattle.fs_msg.specs.declared.note.Note.{Note}
use Rattle.fs_msg.specs.declared.note.Note.TheVariants as note
use Rattle.fs_actor.specs.Actor.{first_spent, is_full_down, with_pushed}
use Rattle.fs_actor.specs.Hearing.{event_of, message_in, quiet_note}
use Rattle.fs_actor.specs.Several.{ServerRun, first_of, server_begins, server_hears_each, server_hears_one, unjoined_notes}
use Rattle.fs_actor.proofs.Several.{server_spent}
use Rattle.fs_serial.specs.Cluster.{in_flight_from}
use Rattle.fs_serial.specs.declared.in_flight.InFlight.{InFlight}
use Rattle.fs_server.specs.Step.{spent_by, step}
use Rattle.fs_server.specs.declared.event.ServerEvent.{ServerEvent}
use Rattle.fs_server.specs.declared.state.Server.{Server as Core}
use Rattle.fs_world.specs.Calls.{server_heard}
use Rattle.fs_world.specs.Linked.{FitsDown}
use Rattle.fs_world.specs.Packets.{numbers_from, with_sent}
use Rattle.fs_world.specs.Planned.{IsAnswered, run_of}
use Rattle.fs_world.specs.Served.{SessionStates, ServerStepped, with_down, with_downs}
use Rattle.fs_world.proofs.Spending.{has_room}

-- what was joined of the actor are these events, each as it is read
abbrev pub AreEvents : Peer → List Joined → List ServerEvent → Type 0
AreEvents from [] [] = Unit {0}
AreEvents from [] (e ∷ es) = ⊥
AreEvents from (j ∷ js) [] = ⊥
AreEvents from (j ∷ js) (e ∷ es) = (event_of from (message_in j) ≡ Some e) × AreEvents from js es

abbrev pub sent_at : ℕ → ServerEvent → Core → List (Peer × Msg)
sent_at now e s = (step s now e).out.send

-- ## What the server makes of it

-- its core takes a step, and what that sends is on its way; nothing goes out yet
abbrev pub taking : ℕ → ℕ → ServerEvent → ServerStepped → ServerStepped
taking k now e x = record x {
  server = (step x.server now e).server;
  post = with_pushed (step x.server now e).out.send x.post;
  sessions = with_downs k (step x.server now e).out.send x.sessions;
  in_flight = x.in_flight ++ in_flight_from k (step x.server now e).out.send;
  journal = x.journal ++ (step x.server now e).out.admitted;
}

-- one step after another
abbrev pub taking_all : ℕ → ℕ → List ServerEvent → ServerStepped → ServerStepped
taking_all k now [] x = x
taking_all k now (e ∷ es) x = taking_all k now es (taking k now e x)

-- what it notes and sends at these
abbrev pub server_notes : ℕ → List ServerEvent → Core → List Note
server_notes now [] s = []
server_notes now (e ∷ es) s = note.Server (step s now e).out.note ∷ server_notes now es (step s now e).server

abbrev pub server_sends : ℕ → List ServerEvent → Core → List (Peer × Msg)
server_sends now [] s = []
server_sends now (e ∷ es) s = (step s now e).out.send ++ server_sends now es (step s now e).server

-- of what a packet gave this is noted
abbrev pub heard_notes : Heard → ℕ → List ServerEvent → Core → List Note
heard_notes h now [] s = quiet_note h ∷ []
heard_notes h now (e ∷ es) s = server_notes now (e ∷ es) s

-- then what is due goes out
abbrev pub due_out : ℕ → Option Peer → List Note → Option Counter → ServerStepped → ServerStepped
due_out k replied notes spent x = record x {
  post = (post_due x.post false replied).links;
  packets = with_sent (post_due x.post false replied).sent x.packets;
  outcome =
      record { who = Some (Server k); notes = notes; sent = numbers_from (length x.packets.sent) (post_due x.post false replied).sent };
  spent = spent;
}

-- ## Steps, one after another

pub downs_append : (k : ℕ) (xs ys : List (Peer × Msg)) (sessions : SessionStates)
    → with_downs k (xs ++ ys) sessions ≡ with_downs k ys (with_downs k xs sessions)
downs_append k [] ys sessions = refl
downs_append k (x ∷ xs) ys sessions = downs_append k xs ys (with_down k x sessions)

pub flying_append : (k : ℕ) (xs ys : List (Peer × Msg)) → in_flight_from k (xs ++ ys) ≡ in_flight_from k xs ++ in_flight_from k ys
flying_append k [] ys = refl
flying_append k ((Server to, msg.Peer m) ∷ xs) ys =
    ap (λ (fs : List InFlight). record { from = k; to = to; message = m } ∷ fs) (flying_append k xs ys)
flying_append k ((Server to, msg.Answer a) ∷ xs) ys = flying_append k xs ys
flying_append k ((Server to, msg.Client m) ∷ xs) ys = flying_append k xs ys
flying_append k ((Client s, m) ∷ xs) ys = flying_append k xs ys

-- what a run so far makes of what stands there
abbrev ran : ℕ → ServerRun → ServerStepped → ServerStepped
ran k y x = record x {
  server = y.server;
  post = y.post;
  sessions = with_downs k y.send x.sessions;
  in_flight = x.in_flight ++ in_flight_from k y.send;
  journal = x.journal ++ y.admitted;
}

one_ran : (k now : ℕ) (e : ServerEvent) (y : ServerRun) (x : ServerStepped)
    → ran k (server_hears_one now (Some e) y) x ≡ taking k now e (ran k y x)
one_ran k now e y x =
    let out = (step y.server now e).out in
    let sessions : with_downs k (y.send ++ out.send) x.sessions ≡ with_downs k out.send (with_downs k y.send x.sessions) =
    downs_append k y.send out.send x.sessions in
    let in_flight : x.in_flight ++ in_flight_from k (y.send ++ out.send) ≡
    (x.in_flight ++ in_flight_from k y.send) ++ in_flight_from k out.send =
    ap (λ (fs : List InFlight). x.in_flight ++ fs) (flying_append k y.send out.send)
    ∙ sym (append_assoc x.in_flight (in_flight_from k y.send) (in_flight_from k out.send)) in
    let journal : x.journal ++ (y.admitted ++ out.admitted) ≡ (x.journal ++ y.admitted) ++ out.admitted =
    sym (append_assoc x.journal y.admitted out.admitted) in
    λ i. record (taking k now e (ran k y x)) { sessions = sessions i; in_flight = in_flight i; journal = journal i }

each_ran : (k now : ℕ) (from : Peer) (js : List Joined) (es : List ServerEvent) (y : ServerRun) (x : ServerStepped) → AreEvents from js es
    → ran k (server_hears_each now from js y) x ≡ taking_all k now es (ran k y x)
each_ran k now from [] [] y x h = refl
each_ran k now from [] (e ∷ es) y x h = absurd h
each_ran k now from (j ∷ js) [] y x h = absurd h
each_ran k now from (j ∷ js) (e ∷ es) y x h =
    ap (λ (o : Option ServerEvent). ran k (server_hears_each now from js (server_hears_one now o y)) x) h.0
    ∙ each_ran k now from js es (server_hears_one now (Some e) y) x h.1
    ∙ ap (taking_all k now es) (one_ran k now e y x)

each_notes : (now : ℕ) (from : Peer) (js : List Joined) (es : List ServerEvent) (y : ServerRun) → AreEvents from js es
    → (server_hears_each now from js y).notes ≡ y.notes ++ server_notes now es y.server
each_notes now from [] [] y h = sym (append-nil y.notes)
each_notes now from [] (e ∷ es) y h = absurd h
each_notes now from (j ∷ js) [] y h = absurd h
each_notes now from (j ∷ js) (e ∷ es) y h =
    ap (λ (o : Option ServerEvent). (server_hears_each now from js (server_hears_one now o y)).notes) h.0
    ∙ each_notes now from js es (server_hears_one now (Some e) y) h.1
    ∙ append_assoc y.notes (note.Server (step y.server now e).out.note ∷ []) (server_notes now es (step y.server now e).server)

pub each_sends : (now : ℕ) (from : Peer) (js : List Joined) (es : List ServerEvent) (y : ServerRun) → AreEvents from js es
    → (server_hears_each now from js y).send ≡ y.send ++ server_sends now es y.server
each_sends now from [] [] y h = sym (append-nil y.send)
each_sends now from [] (e ∷ es) y h = absurd h
each_sends now from (j ∷ js) [] y h = absurd h
each_sends now from (j ∷ js) (e ∷ es) y h =
    ap (λ (o : Option ServerEvent). (server_hears_each now from js (server_hears_one now o y)).send) h.0
    ∙ each_sends now from js es (server_hears_one now (Some e) y) h.1
    ∙ append_assoc y.send (step y.server now e).out.send (server_sends now es (step y.server now e).server)

-- ## The server's event

begun_ran : (k : ℕ) (notes : List Note) (x : ServerStepped) → ran k (server_begins x.server x.post notes) x ≡ x
begun_ran k notes x =
    let in_flight : x.in_flight ++ [] ≡ x.in_flight = append-nil x.in_flight in
    let journal : x.journal ++ [] ≡ x.journal = append-nil x.journal in
    λ i. record x { in_flight = in_flight i; journal = journal i }

abbrev pub run_in : ℕ → Peer → Heard → List Joined → ServerStepped → ServerRun
run_in now from h js x = server_hears_each now from js (server_begins x.server x.post (unjoined_notes js h))

noted : (now : ℕ) (from : Peer) (h : Heard) (js : List Joined) (es : List ServerEvent) (x : ServerStepped) → AreEvents from js es
    → (run_in now from h js x).notes ≡ heard_notes h now es x.server
noted now from h [] [] x of = refl
noted now from h [] (e ∷ es) x of = absurd of
noted now from h (j ∷ js) [] x of = absurd of
noted now from h (j ∷ js) (e ∷ es) x of = each_notes now from (j ∷ js) (e ∷ es) (server_begins x.server x.post []) of

-- its core takes a step for each, and what is due goes out
pub heard_is : (k now : ℕ) (from : Peer) (replied : Option Peer) (h : Heard) (es : List ServerEvent) (x : ServerStepped)
    → AreEvents from h.joined es
    → server_heard now k from replied h x ≡ due_out k replied (heard_notes h now es x.server) (run_in now from h h.joined x).spent
    (taking_all k now es x)
heard_is k now from replied h es x of =
    let y = run_in now from h h.joined x in
    let all : ran k y x ≡ taking_all k now es x = each_ran k now from h.joined es
    (server_begins x.server x.post (unjoined_notes h.joined h)) x of
    ∙ ap (taking_all k now es) (begun_ran k (unjoined_notes h.joined h) x) in
    λ i. due_out k replied (noted now from h h.joined es x of i) y.spent (all i)

-- what it has spent is not in the notes
pub spent_so : (now : ℕ) (from : Peer) (h : Heard) (x : ServerStepped)
    → (run_in now from h h.joined x).spent ≡ (run_of now from h.joined x).spent
spent_so now from h x = go h.joined
  where
    go : (js : List Joined) → (run_in now from h js x).spent ≡ (run_of now from js x).spent
    go [] = refl
    go (j ∷ js) = refl

pub sends_so : (now : ℕ) (from : Peer) (h : Heard) (x : ServerStepped)
    → (run_in now from h h.joined x).send ≡ (run_of now from h.joined x).send
sends_so now from h x = go h.joined
  where
    go : (js : List Joined) → (run_in now from h js x).send ≡ (run_of now from js x).send
    go [] = refl
    go (j ∷ js) = refl

-- ## There is room for what it sends

abbrev pub HaveRoom : ℕ → List ServerEvent → Core → Links → Type 0
HaveRoom now [] s post = Unit {0}
HaveRoom now (e ∷ es) s post =
    (is_full_down (step s now e).out.send post ≡ false) × HaveRoom now es (step s now e).server (with_pushed (step s now e).out.send post)

-- what each step sends was written down
abbrev pub AreWritten : ℕ → List ServerEvent → Core → Type 0
AreWritten now [] s = Unit {0}
AreWritten now (e ∷ es) s = FitsDown (step s now e).out.send × AreWritten now es (step s now e).server

fits_parts : (xs ys : List (Peer × Msg)) → FitsDown (xs ++ ys) → FitsDown xs × FitsDown ys
fits_parts [] ys h = (tt, h)
fits_parts (x ∷ xs) ys h = let rest = fits_parts xs ys h.1 in ((h.0, rest.0), rest.1)

each_written : (now : ℕ) (es : List ServerEvent) (s : Core) → FitsDown (server_sends now es s) → AreWritten now es s
each_written now [] s h = tt
each_written now (e ∷ es) s h =
    let parts = fits_parts (step s now e).out.send (server_sends now es (step s now e).server) h in
    (parts.0, each_written now es (step s now e).server parts.1)

later_unspent : (first later : Option Counter) → first_of first later ≡ None → later ≡ None
later_unspent None later h = h
later_unspent (Some counter) later h = absurd (cc)

-- nothing that was heard before has spent a counter either
all_unspent : (now : ℕ) (from : Peer) (js : List Joined) (y : ServerRun) → (server_hears_each now from js y).spent ≡ None → y.spent ≡ None
all_unspent now from js y h = go y.spent refl
  where
    go : (o : Option Counter) → y.spent ≡ o → y.spent ≡ None
    go None e = e
    go (Some counter) e = let spent : None ≡ Some counter = sym h ∙ server_spent now from js y counter e in absurd (cc)

each_room : (now : ℕ) (from : Peer) (js : List Joined) (es : List ServerEvent) (y : ServerRun) → AreEvents from js es
    → (server_hears_each now from js y).spent ≡ None → HaveRoom now es y.server y.post
each_room now from [] [] y h none = tt
each_room now from [] (e ∷ es) y h none = absurd h
each_room now from (j ∷ js) [] y h none = absurd h
each_room now from (j ∷ js) (e ∷ es) y h none =
    let then : (server_hears_each now from js (server_hears_one now (Some e) y)).spent ≡ None =
    sym (ap (λ (o : Option ServerEvent). (server_hears_each now from js (server_hears_one now o y)).spent) h.0) ∙ none in
    let full = is_full_down (step y.server now e).out.send y.post in
    let one : (server_hears_one now (Some e) y).spent ≡ None = all_unspent now from js (server_hears_one now (Some e) y) then in (
      has_room (spent_by y.server now e) full (later_unspent y.spent (first_spent (spent_by y.server now e) full) one),
      each_room now from js es (server_hears_one now (Some e) y) h.1 then,
    )

pub answered_room : (now : ℕ) (from : Peer) (js : List Joined) (es : List ServerEvent) (x : ServerStepped) → AreEvents from js es
    → IsAnswered now from js x → HaveRoom now es x.server x.post
answered_room now from js es x h a = each_room now from js es (server_begins x.server x.post []) h a.1

pub answered_written : (now : ℕ) (from : Peer) (js : List Joined) (es : List ServerEvent) (x : ServerStepped) → AreEvents from js es
    → IsAnswered now from js x → AreWritten now es x.server
answered_written now from js es x h a =
    each_written now es x.server (subst FitsDown (each_sends now from js es (server_begins x.server x.post []) h) a.0)
