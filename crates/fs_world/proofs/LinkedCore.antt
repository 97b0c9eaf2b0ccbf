-- What happens at a server keeps what holds of the links, and what comes to it are the first messages on their way.
use Rattle.std.proofs.Common.{◌≡◌, ◌∙◌, ◌<◌, ◌==◌, ℕ, Bool, true, false, List, [], ◌∷◌, ◌++◌, length, Option, Some, None, refl, sym, ap}
use Rattle.std.proofs.Common.{subst, cond, inl, inr, arith}
use Rattle.std.specs.Prelude.{is_some, slice_get, slice_set}
use Rattle.std.specs.FinMap.{get, insert}
use Rattle.std.proofs.lemmas.Bool.{eqb-true}
use Rattle.std.proofs.lemmas.List.{length-set}
use Rattle.fs_ident.specs.In.{In}
use Rattle.fs_ident.specs.declared.actor.Peer.{Peer}
use Rattle.fs_ident.specs.declared.actor.Peer.TheVariants.{Server, Client}
use Rattle.fs_ident.specs.declared.actor.Session.{Session}
use Rattle.fs_ident.proofs.Standing.{In-both, In-more}
use Rattle.fs_frag.specs.declared.joined.Joined.{Joined}
use Rattle.fs_window.specs.declared.heard.Heard.{Heard}
use Rattle.fs_window.specs.declared.packet.Packet.{Packet}
use Rattle.fs_window.specs.Peers.{same_peer}
use Rattle.fs_window.specs.Post.{Links, post_accepted}
use Rattle.fs_window.proofs.Lists.{some_is}
use Rattle.fs_msg.specs.declared.answer.Answer.{Answer}
use Rattle.fs_msg.specs.declared.client_msg.ClientMsg.{ClientMsg}
use Rattle.fs_msg.specs.declared.core_error.Counter.{Counter}
use Rattle.fs_msg.specs.declared.item.Item.{Item}
use Rattle.fs_msg.specs.declared.msg.Msg.{Msg}
use Rattle.fs_msg.specs.declared.msg.Msg.TheVariants as msg
use Rattle.fs_msg.specs.declared.note.Note.{Note}
use Rattle.fs_msg.specs.declared.note.Note.TheVariants as note
use Rattle.fs_actor.specs.Actor.{first_spent, is_full_down, with_pushed}
use Rattle.fs_actor.specs.Hearing.{heard_in}
use Rattle.fs_serial.specs.Cluster.{in_flight_from, is_between, is_with, without_first}
use Rattle.fs_serial.specs.declared.in_flight.InFlight.{InFlight}
use Rattle.fs_server.specs.Server.{Stepped as CoreStepped}
use Rattle.fs_server.specs.Step.{spent_by, step}
use Rattle.fs_server.specs.declared.event.ServerEvent.{ServerEvent}
use Rattle.fs_server.specs.declared.event.ServerEvent.TheVariants.{FromClient, FromPeer, Move, Recall, Turn}
use Rattle.fs_server.specs.declared.state.Server.{Server as Core}
use Rattle.fs_serial.proofs.Lists.SetAt.{In_without, set_same}
use Rattle.fs_world.specs.Linked.{AreTied, FitsDown, HasJoined, IsCarried, AreFirstOf, IsLinked, IsNamedAnswer, IsSoundState, IsServed}
use Rattle.fs_world.specs.Linked.{between, state_post}
use Rattle.fs_world.specs.Planned.{IsAnswered, IsOwn, WasSent}
use Rattle.fs_world.specs.Calls.{server_goes, server_heard}
use Rattle.fs_world.specs.Served.{SessionStates, ServerStepped, at_server, core_step, flying_without_each, sessions_without_each}
use Rattle.fs_world.specs.Served.{server_step, server_step_at, server_receive_packet, with_down, with_down_at, with_downs, with_server}
use Rattle.fs_world.specs.Served.{without_each, without_joined, without_up}
use Rattle.fs_world.specs.declared.servers.session_state.SessionState.{SessionState}
use Rattle.fs_world.specs.declared.servers.world.Served.{Served}
use Rattle.fs_world.proofs.LinkedChange.{IsHeard, first_of, other_way, tied_alike}
use Rattle.fs_world.proofs.LinkedLists.{got_set, within}
use Rattle.fs_world.proofs.LinkedStates.{all_put, got_here, put_again, put_same}
use Rattle.fs_world.proofs.LinkedServed.{other_post, server_due, server_hears_server, server_hears_session, server_sends, serving}
use Rattle.fs_world.proofs.NamedServers.{AreSent, IsBrought, IsStepped, step_goes}
use Rattle.fs_world.proofs.LinkedFirst.{AllSoundStates, carried_then, posts_there, readable_in, served_then}
use Rattle.fs_world.proofs.LinkedSession.{packet_of, went}
use Rattle.fs_world.proofs.Seen.{joined_still}
use Rattle.fs_world.proofs.SeenSends.{downs_joined}
use Rattle.fs_world.proofs.ServerBrings.{AreBrought, IsSender, brought_still, next_brought}
use Rattle.fs_world.proofs.ServerEach.{AreWritten, HaveRoom, answered_room, answered_written, due_out, heard_is, taking, taking_all}
use Rattle.fs_world.proofs.ServerNext.{AreNext, events_in}

-- ## While a server is at its step

-- what holds of the world while its server is so far
pub record IsGoing (w : Served) (k : ℕ) (x : ServerStepped) : Type 0 where
  pub tied : AreTied (serving k x w)
  pub server : IsServed (length w.servers) x.sessions k x.server
  pub sessions : AllSoundStates (length w.servers) x.sessions
  pub in_flight : (f : InFlight) → In f x.in_flight → IsCarried (length w.servers) x.sessions f
  pub joined : (t : Session) → HasJoined w.sessions t → HasJoined x.sessions t

-- the step is not begun
serving_same : (w : Served) (k : ℕ) (c : Core) (post : Links) → slice_get w.servers k ≡ Some c → slice_get w.posts k ≡ Some post
    → serving k (at_server c post w) w ≡ w
serving_same w k c post e f =
    ap (λ (cs : List Core). cores cs (slice_set w.posts k post)) (set_same w.servers k c e)
    ∙ ap (λ (ps : List Links). cores w.servers ps) (set_same w.posts k post f)
  where
    cores : List Core → List Links → Served
    cores cs ps = record w { servers = cs; posts = ps }

begins : (w : Served) (k : ℕ) (c : Core) (post : Links) → slice_get w.servers k ≡ Some c → slice_get w.posts k ≡ Some post → IsLinked w
    → IsGoing w k (at_server c post w)
begins w k c post e f h = record {
  tied = subst AreTied (sym (serving_same w k c post e f)) h.ties;
  server = h.servers k c e;
  sessions = h.sessions;
  in_flight = h.in_flight;
  joined = λ t g. g;
}

-- it is over
going_linked : (w : Served) (k : ℕ) (x : ServerStepped) → k < length w.servers → IsGoing w k x → IsLinked w → IsLinked (serving k x w)
going_linked w k x few g h =
    let len : length (slice_set w.servers k x.server) ≡ length w.servers = length-set w.servers k x.server in
    let some = h.some in
    let most = h.few in
    record {
      posts = length-set w.posts k x.post ∙ h.posts ∙ sym len;
      some = omega (arith, len);
      few = omega (arith, len);
      ties = g.tied;
      servers = λ j c i. subst (λ (n : ℕ). IsServed n x.sessions j c) (sym len) (core j c (sym (got_set w.servers k j x.server few) ∙ i));
      sessions = λ s state i. subst (λ (n : ℕ). IsSoundState n s state) (sym len) (g.sessions s state i);
      in_flight = λ f i. subst (λ (n : ℕ). IsCarried n x.sessions f) (sym len) (g.in_flight f i);
    }
  where
    core : (j : ℕ) (c : Core) → cond (j == k) (Some x.server) (slice_get w.servers j) ≡ Some c → IsServed (length w.servers) x.sessions j c
    core j c = either (j == k) refl
      where
        either : (b : Bool) → (j == k) ≡ b → cond b (Some x.server) (slice_get w.servers j) ≡ Some c
            → IsServed (length w.servers) x.sessions j c
        either true e i = subst (λ (n : ℕ). IsServed (length w.servers) x.sessions n c) (sym (eqb-true j k e))
            (subst (λ (d : Core). IsServed (length w.servers) x.sessions k d) (some_is x.server c i) g.server)
        either false e i = served_then (length w.servers) w.sessions x.sessions j c g.joined (h.servers j c i)

-- ## What goes out

-- whoever was heard has joined, or is another server that there is
abbrev pub IsOther : ℕ → SessionStates → ℕ → Option Peer → Type 0
IsOther servers sessions k None = Unit {0}
IsOther servers sessions k (Some (Client s)) = HasJoined sessions s
IsOther servers sessions k (Some (Server j)) = (j < servers) × (same_peer (Server j) (Server k) ≡ false)

other_still : (servers : ℕ) (a b : SessionStates) (k : ℕ) (heard : Option Peer) → ((t : Session) → HasJoined a t → HasJoined b t)
    → IsOther servers a k heard → IsOther servers b k heard
other_still servers a b k None g of = tt
other_still servers a b k (Some (Client s)) g of = g s of
other_still servers a b k (Some (Server j)) g of = of

module _ (w : Served) (k : ℕ) (few : k < length w.servers) (h : IsLinked w) where
  abbrev server_count : ℕ
  server_count = length w.servers

  there : k < length w.posts
  there = subst (λ (n : ℕ). k < n) (sym h.posts) few

  heard_there : (x : ServerStepped) (heard : Option Peer) → IsOther server_count x.sessions k heard
      → IsHeard (serving k x w) (Server k) heard
  heard_there x None of = tt
  heard_there x (Some (Client s)) of = ((of.0.post, ap state_post of.1), refl)
  heard_there x (Some (Server j)) of = let q = posts_there w h j of.0 in ((q.0, other_post w k there x j of.1 ∙ q.1), of.1)

  -- what is due goes out
  due_goes : (x : ServerStepped) (turn : Bool) (heard : Option Peer) (n : Note) (spent : Option Counter)
      → IsOther server_count x.sessions k heard → IsGoing w k x → IsGoing w k (server_goes k turn heard n spent x)
  due_goes x turn heard n spent of g = record {
    tied = server_due w k there x (server_goes k turn heard n spent x) turn heard refl refl refl refl (heard_there x heard of) g.tied;
    server = g.server;
    sessions = g.sessions;
    in_flight = g.in_flight;
    joined = g.joined;
  }

  -- ## The server takes a step

  down_sound : (s : Session) (state : SessionState) (a : Answer) → IsNamedAnswer server_count a → IsSoundState server_count s state
      → IsSoundState server_count s (record state { down = state.down ++ (k, a) ∷ [] })
  down_sound s state a named g = record {
    number = g.number;
    session = g.session;
    log = g.log;
    hints = g.hints;
    up = g.up;
    down = λ m i. In-more m state.down (k, a) ((m.0 < server_count) × IsNamedAnswer server_count m.1) (λ j. g.down m j)
        (λ e. subst (λ (y : ℕ × Answer). (y.0 < server_count) × IsNamedAnswer server_count y.1) (sym e) (few, named)) i;
  }

  downs_sound : (sessions : SessionStates) (xs : List (Peer × Msg)) (m : SessionStates) → AreSent server_count sessions k xs
      → AllSoundStates server_count m → AllSoundStates server_count (with_downs k xs m)
  downs_sound sessions [] m sent g = g
  downs_sound sessions ((Client s, msg.Answer a) ∷ xs) m sent g =
      downs_sound sessions xs (with_down k (Client s, msg.Answer a) m) sent.1 (at (get m s.0) refl)
    where
      at : (o : Option SessionState) → get m s.0 ≡ o → AllSoundStates server_count (with_down_at o s.0 (k, a) m)
      at None e = g
      at (Some state) e = all_put (IsSoundState server_count) m s (record state { down = state.down ++ (k, a) ∷ [] })
          (down_sound s state a sent.0.1 (g s state e)) g
  downs_sound sessions ((Client s, msg.Client c) ∷ xs) m sent g = absurd sent.0
  downs_sound sessions ((Client s, msg.Peer c) ∷ xs) m sent g = absurd sent.0
  downs_sound sessions ((Server to, c) ∷ xs) m sent g = downs_sound sessions xs m sent.1 g

  flying_carried : (sessions : SessionStates) (xs : List (Peer × Msg)) → AreSent server_count sessions k xs → (f : InFlight)
      → In f (in_flight_from k xs) → IsCarried server_count sessions f
  flying_carried sessions [] sent f i = absurd i
  flying_carried sessions ((Client s, msg.Answer a) ∷ xs) sent f i = flying_carried sessions xs sent.1 f i
  flying_carried sessions ((Client s, msg.Client c) ∷ xs) sent f i = absurd sent.0
  flying_carried sessions ((Client s, msg.Peer c) ∷ xs) sent f i = absurd sent.0
  flying_carried sessions ((Server to, msg.Answer a) ∷ xs) sent f i = absurd sent.0
  flying_carried sessions ((Server to, msg.Client c) ∷ xs) sent f i = absurd sent.0
  flying_carried sessions ((Server to, msg.Peer m) ∷ xs) sent f (inl e) =
      subst (λ (y : InFlight). IsCarried server_count sessions y) (sym e) sent.0
  flying_carried sessions ((Server to, msg.Peer m) ∷ xs) sent f (inr i) = flying_carried sessions xs sent.1 f i

  -- its core takes the step, and what that sends is on its way
  pub step_taken : (x : ServerStepped) (now : ℕ) (e : ServerEvent) → IsBrought server_count x.sessions k e
      → FitsDown (step x.server now e).out.send → is_full_down (step x.server now e).out.send x.post ≡ false
      → IsGoing w k x → IsGoing w k (taking k now e x)
  step_taken x now e brought fits room g =
      let y : CoreStepped = step x.server now e in
      let k_step : IsStepped server_count x.sessions k y =
      step_goes server_count x.sessions k few (readable_in server_count x.sessions g.sessions) x.server now e brought g.server in
      let still = downs_joined k y.out.send x.sessions in
      record {
        tied = tied_same (with_pushed y.out.send x.post) (with_downs k y.out.send x.sessions) (x.in_flight ++ in_flight_from k y.out.send)
            y.server (x.journal ++ y.out.admitted) (server_sends w k there server_count x.sessions (posts_there w h)
            (readable_in server_count x.sessions g.sessions) y.out.send x (λ t j. j) k_step.sends fits room g.tied);
        server = served_then server_count x.sessions (with_downs k y.out.send x.sessions) k y.server still k_step.server;
        sessions = downs_sound x.sessions y.out.send x.sessions k_step.sends g.sessions;
        in_flight = λ f i. carried_then server_count x.sessions (with_downs k y.out.send x.sessions) f still
            (In-both f x.in_flight (in_flight_from k y.out.send) (IsCarried server_count x.sessions f) (λ j. g.in_flight f j)
            (λ j. flying_carried x.sessions y.out.send k_step.sends f j) i);
        joined = λ t j. still t (g.joined t j);
      }
    where
      -- the server and the journal have no part in the links
      tied_same : (post : Links) (sessions : SessionStates) (in_flight : List InFlight) (server : Core) (journal : List Item)
          → AreTied (serving k (record x { post = post; sessions = sessions; in_flight = in_flight }) w)
          → AreTied (serving k (record x { server = server; post = post; sessions = sessions; in_flight = in_flight; journal = journal }) w)
      tied_same post sessions in_flight server journal t =
          let a = record x { post = post; sessions = sessions; in_flight = in_flight } in
          let b = record x { server = server; post = post; sessions = sessions; in_flight = in_flight; journal = journal } in
          tied_alike (serving k a w) (serving k b w) refl refl refl refl t

  pub core_goes : (x : ServerStepped) (turn : Bool) (heard : Option Peer) (now : ℕ) (e : ServerEvent)
      → IsOther server_count x.sessions k heard → IsBrought server_count x.sessions k e → FitsDown (step x.server now e).out.send
      → is_full_down (step x.server now e).out.send x.post ≡ false
      → IsGoing w k x → IsGoing w k (core_step k turn heard now e x)
  core_goes x turn heard now e of brought fits room g =
      let y : CoreStepped = step x.server now e in
      due_goes (taking k now e x) turn heard (note.Server y.out.note)
      (first_spent (spent_by x.server now e) (is_full_down y.out.send x.post))
      (other_still server_count x.sessions (with_downs k y.out.send x.sessions) k heard (downs_joined k y.out.send x.sessions) of)
      (step_taken x now e brought fits room g)

  -- ## A packet comes

  -- the steps at all that it brings, one after another
  steps_taken : (es : List ServerEvent) (x : ServerStepped) (now : ℕ) → AreBrought server_count x.sessions k es
      → HaveRoom now es x.server x.post → AreWritten now es x.server → IsGoing w k x → IsGoing w k (taking_all k now es x)
  steps_taken [] x now brought room fits g = g
  steps_taken (e ∷ es) x now brought room fits g =
      steps_taken es (taking k now e x) now (brought_still server_count x.sessions (taking k now e x).sessions k es
      (downs_joined k (step x.server now e).out.send x.sessions) brought.1) room.1 fits.1
      (step_taken x now e brought.0 fits.0 room.0 g)

  -- whatever is noted
  goes_out : (x : ServerStepped) (replied : Option Peer) (notes : List Note) (spent : Option Counter)
      → IsOther server_count x.sessions k replied → IsGoing w k x → IsGoing w k (due_out k replied notes spent x)
  goes_out x replied notes spent of g =
      let then = due_goes x false replied note.None spent of g in
      record { tied = then.tied; server = then.server; sessions = then.sessions; in_flight = then.in_flight; joined = then.joined }

  of_other : (from : Peer) (p : Packet) → IsOther server_count w.sessions k (Some from)
      → IsOther server_count w.sessions k (heard_in from p)
  of_other from p of = either (is_some p.body)
    where
      either : (b : Bool) → IsOther server_count w.sessions k (cond b (Some from) None)
      either true = of
      either false = tt

  -- what was joined is on its way no more, and the server hears it
  all_heard : (x : ServerStepped) (from : Peer) (now : ℕ) (replied : Option Peer) (heard : Heard)
      → IsOther server_count w.sessions k replied → IsSender w.sessions from → AreFirstOf heard.joined (between w from (Server k))
      → IsGoing w k x → IsAnswered now from heard.joined x → IsGoing w k (server_heard now k from replied heard x)
  all_heard x from now replied heard of sender first g answered =
      let es = events_in w k from heard.joined first in
      let brought = brought_still server_count w.sessions x.sessions k es.0 g.joined
      (next_brought server_count k from es.0 w.sessions w.sessions w.in_flight sender h.in_flight es.2) in
      let then = steps_taken es.0 x now brought (answered_room now from heard.joined es.0 x es.1 answered)
      (answered_written now from heard.joined es.0 x es.1 answered) g in
      subst (IsGoing w k) (sym (heard_is k now from replied heard es.0 x es.1))
      (goes_out (taking_all k now es.0 x) replied _ _ (other_still server_count w.sessions (taking_all k now es.0 x).sessions k replied
      then.joined of) then)

-- ## An event of a server

pub own_brought : (servers : ℕ) (sessions : SessionStates) (k : ℕ) (e : ServerEvent) → IsOwn servers e → IsBrought servers sessions k e
own_brought servers sessions k Turn own = tt
own_brought servers sessions k (Recall field) own = tt
own_brought servers sessions k (Move prefix to) own = own
own_brought servers sessions k (FromClient by m) own = absurd own
own_brought servers sessions k (FromPeer from m) own = absurd own

pub server_linked : (w : Served) (k : ℕ) (c : Core) (post : Links) (turn : Bool) (now : ℕ) (e : ServerEvent)
    → slice_get w.servers k ≡ Some c → slice_get w.posts k ≡ Some post → IsOwn (length w.servers) e
    → FitsDown (step c now e).out.send → is_full_down (step c now e).out.send post ≡ false → IsLinked w
    → IsLinked (server_step k turn now e w).world
server_linked w k c post turn now e i j own fits room h =
    let few = within w.servers k c i in
    let x : ServerStepped = at_server c post w in
    subst (λ (o : Option Core). IsLinked (server_step_at o (slice_get w.posts k) k turn now e w).world) (sym i)
    (subst (λ (o : Option Links). IsLinked (server_step_at (Some c) o k turn now e w).world) (sym j)
    (going_linked w k (core_step k turn None now e x) few
    (core_goes w k few h x turn None now e tt (own_brought (length w.servers) w.sessions k e own) fits room (begins w k c post i j h))
    h))

-- ## A packet comes to a server

pub server_receive_first : (w : Served) (k : ℕ) (post : Links) (from : Peer) (p : Packet) → slice_get w.posts k ≡ Some post
    → WasSent from (Server k) (Some p) w.packets.sent
    → IsLinked w → AreFirstOf (post_accepted post from p).heard.joined (between w from (Server k))
server_receive_first w k post from p e x h =
    let g = went w from (Server k) p x h in
    first_of (Server k) from post g.from.0 p w e g.from.1 (other_way from (Server k) g.apart)
    (packet_of w from (Server k) g.from.0 post p g.from.1 e x h) h.ties

-- the session that has these links
session_there : (w : Served) (s : Session) (q : Links) → state_post (get w.sessions s.0) ≡ Some q
    → (state : SessionState) × (get w.sessions s.0 ≡ Some state)
session_there w s q e = at (get w.sessions s.0) refl e
  where
    at : (o : Option SessionState) → get w.sessions s.0 ≡ o → state_post o ≡ Some q
        → (state : SessionState) × (get w.sessions s.0 ≡ Some state)
    at None i f = absurd (cc)
    at (Some state) i f = (state, i)

up_sound : (servers : ℕ) (s : Session) (state : SessionState) (joined : List Joined) (is : ℕ × ClientMsg → Bool)
    → IsSoundState servers s state → IsSoundState servers s (record state { up = without_each joined is state.up })
up_sound servers s state [] is g = g
up_sound servers s state (j ∷ js) is g =
    up_sound servers s (record state { up = without_first is state.up }) js is (record {
      number = g.number;
      session = g.session;
      log =
          g.log;
      hints = g.hints;
      up = λ m i. g.up m (In_without is state.up m i);
      down = g.down;
    })

In-taken : (joined : List Joined) (is : InFlight → Bool) (f : InFlight) (in_flight : List InFlight)
    → In f (without_each joined is in_flight) → In f in_flight
In-taken [] is f in_flight i = i
In-taken (j ∷ js) is f in_flight i = In_without is in_flight f (In-taken js is f (without_first is in_flight) i)

-- of a session
sessions_gone : (k : ℕ) (s : Session) (js : List Joined) (sessions : SessionStates) (state : SessionState) → get sessions s.0 ≡ Some state
    → insert sessions s.0 (record state { up = without_each js (is_with k) state.up }) ≡ sessions_without_each k (Client s) js sessions
sessions_gone k s [] sessions state is = put_same sessions s state is
sessions_gone k s (j ∷ js) sessions state is =
    let left : SessionState = record state { up = without_first (is_with k) state.up } in
    sym (put_again sessions s left (record state { up = without_each (j ∷ js) (is_with k) state.up }))
    ∙ sessions_gone k s js (insert sessions s.0 left) left (got_here sessions s left)
    ∙ sym (ap (λ (o : Option SessionState). sessions_without_each k (Client s) js (without_up k o s.0 sessions)) is)

flying_stays : (k : ℕ) (s : Session) (js : List Joined) (in_flight : List InFlight)
    → in_flight ≡ flying_without_each k (Client s) js in_flight
flying_stays k s [] in_flight = refl
flying_stays k s (j ∷ js) in_flight = flying_stays k s js in_flight

-- of another server
sessions_stay : (k i : ℕ) (js : List Joined) (sessions : SessionStates) → sessions ≡ sessions_without_each k (Server i) js sessions
sessions_stay k i [] sessions = refl
sessions_stay k i (j ∷ js) sessions = sessions_stay k i js sessions

flying_gone : (k i : ℕ) (js : List Joined) (in_flight : List InFlight)
    → without_each js (is_between i k) in_flight ≡ flying_without_each k (Server i) js in_flight
flying_gone k i [] in_flight = refl
flying_gone k i (j ∷ js) in_flight = flying_gone k i js (without_first (is_between i k) in_flight)

-- what was joined is on its way no more
gone_going : (w : Served) (k : ℕ) (c : Core) (post : Links) (from : Peer) (p : Packet) → slice_get w.servers k ≡ Some c
    → slice_get w.posts k ≡ Some post → WasSent from (Server k) (Some p) w.packets.sent → IsLinked w
    → IsGoing w k (without_joined k from (post_accepted post from p).heard.joined (record (at_server c post w) {
      post =
          (post_accepted post from p).links;
    }))
gone_going w k c post (Client s) p i e x h =
    let y : ServerStepped = at_server c post w in
    let g = went w (Client s) (Server k) p x h in
    let there = session_there w s g.from.0 g.from.1 in
    let state = there.0 in
    let is = there.1 in
    let a = post_accepted post (Client s) p in
    let n = length w.servers in
    let start = begins w k c post i e h in
    let left : SessionState = record state { up = without_each a.heard.joined (is_with k) state.up } in
    let gone : IsGoing w k (record y { post = a.links; sessions = insert w.sessions s.0 left }) = record {
      tied = server_hears_session w k (within w.posts k post e) s state p y is
          (packet_of w (Client s) (Server k) state.post post p (ap state_post is) e x h) start.tied;
      server = served_then n w.sessions (insert w.sessions s.0 left) k c (λ t q. joined_still w.sessions s t left q) start.server;
      sessions =
          all_put (IsSoundState n) w.sessions s left (up_sound n s state a.heard.joined (is_with k) (h.sessions s state is)) h.sessions;
      in_flight =
          λ f j. carried_then n w.sessions (insert w.sessions s.0 left) f (λ t q. joined_still w.sessions s t left q) (h.in_flight f j);
      joined = λ t q. joined_still w.sessions s t left q;
    } in
    subst (λ (fs : List InFlight). IsGoing w k (record y {
      post = a.links;
      sessions =
          sessions_without_each k (Client s) a.heard.joined w.sessions;
      in_flight = fs;
    })) (flying_stays k s a.heard.joined w.in_flight)
    (subst (λ (m : SessionStates). IsGoing w k (record y { post = a.links; sessions = m }))
    (sessions_gone k s a.heard.joined w.sessions state is) gone)
gone_going w k c post (Server i) p at e x h =
    let y : ServerStepped = at_server c post w in
    let g = went w (Server i) (Server k) p x h in
    let a = post_accepted post (Server i) p in
    let start = begins w k c post at e h in
    let gone : IsGoing w k (record y { post = a.links; in_flight = without_each a.heard.joined (is_between i k) w.in_flight }) = record {
      tied = server_hears_server w k (within w.posts k post e) i g.from.0 p y g.from.1 g.apart (other_way (Server i) (Server k) g.apart)
          (packet_of w (Server i) (Server k) g.from.0 post p g.from.1 e x h) start.tied;
      server = start.server;
      sessions = h.sessions;
      in_flight = λ f j. h.in_flight f (In-taken a.heard.joined (is_between i k) f w.in_flight j);
      joined = λ t q. q;
    } in
    subst (λ (m : SessionStates). IsGoing w k (record y {
      post = a.links;
      sessions = m;
      in_flight =
          flying_without_each k (Server i) a.heard.joined w.in_flight;
    })) (sessions_stay k i a.heard.joined w.sessions)
    (subst (λ (fs : List InFlight). IsGoing w k (record y { post = a.links; in_flight = fs }))
    (flying_gone k i a.heard.joined w.in_flight) gone)

-- whoever sent it has joined, or is another server that there is
sender_there : (w : Served) (k : ℕ) (from : Peer) (p : Packet) → WasSent from (Server k) (Some p) w.packets.sent → IsLinked w
    → IsOther (length w.servers) w.sessions k (Some from) × IsSender w.sessions from
sender_there w k (Client s) p x h = let g = went w (Client s) (Server k) p x h in let there = session_there w s g.from.0 g.from.1 in
    (there, there)
sender_there w k (Server i) p x h =
    let g = went w (Server i) (Server k) p x h in
    ((subst (λ (m : ℕ). i < m) h.posts (within w.posts i g.from.0 g.from.1), g.apart), tt)

pub receive_packet_server_brought : (w : Served) (k : ℕ) (post : Links) (from : Peer) (p : Packet) (es : List ServerEvent)
    → WasSent from (Server k) (Some p) w.packets.sent → IsLinked w → AreNext k from es w.sessions w.in_flight
    → AreBrought (length w.servers) w.sessions k es
receive_packet_server_brought w k post from p es x h next =
    next_brought (length w.servers) k from es w.sessions w.sessions w.in_flight (sender_there w k from p x h).1 h.in_flight next

pub receive_packet_server_linked : (w : Served) (k : ℕ) (c : Core) (post : Links) (now : ℕ) (from : Peer) (p : Packet)
    → slice_get w.servers k ≡ Some c → slice_get w.posts k ≡ Some post → WasSent from (Server k) (Some p) w.packets.sent
    → IsAnswered now from (post_accepted post from p).heard.joined (record (at_server c post w) {
      post =
          (post_accepted post from p).links;
    })
    → IsLinked w → IsLinked (with_server k (server_receive_packet now k from p (at_server c post w)) w).world
receive_packet_server_linked w k c post now from p i e x answered h =
    let few = within w.servers k c i in
    let a = post_accepted post from p in
    let sender = sender_there w k from p x h in
    going_linked w k (server_receive_packet now k from p (at_server c post w)) few
    (all_heard w k few h (without_joined k from a.heard.joined (record (at_server c post w) { post = a.links })) from now (heard_in from p)
    a.heard
    (of_other w k few h from p sender.0) sender.1 (server_receive_first w k post from p e x h)
    (gone_going w k c post from p i e x h) answered)
    h
