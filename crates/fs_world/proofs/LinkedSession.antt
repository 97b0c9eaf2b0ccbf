-- What happens at a session keeps what holds of the links, and what comes to it are the first answers on their way.
use Rattle.std.proofs.Common.{◌≡◌, ◌∙◌, ◌<◌, ℕ, Bool, true, false, List, [], ◌∷◌, length, Option, Some, None, refl, sym, ap, subst, cond}
use Rattle.std.proofs.Common.{arith}
use Rattle.std.specs.Prelude.{is_some}
use Rattle.std.specs.FinMap.{get, insert}
use Rattle.fs_ident.specs.In.{In}
use Rattle.fs_ident.specs.declared.actor.Peer.{Peer}
use Rattle.fs_ident.specs.declared.actor.Peer.TheVariants.{Server, Client}
use Rattle.fs_ident.specs.declared.actor.Session.{Session}
use Rattle.fs_ident.proofs.Passing.{found}
use Rattle.fs_ident.proofs.Standing.{In-more}
use Rattle.fs_model.specs.declared.op.Op.{Op}
use Rattle.fs_window.specs.declared.link.Link.{Link}
use Rattle.fs_window.specs.declared.packet.Packet.{Packet}
use Rattle.fs_window.specs.declared.sent.Sent.{Sent}
use Rattle.fs_window.specs.OnTheWay.{IsPacketOf}
use Rattle.fs_window.specs.Peers.{same_peer}
use Rattle.fs_window.specs.Post.{Links, link_with, post_accepted, post_due}
use Rattle.fs_window.specs.Reading.{packet_at}
use Rattle.fs_window.proofs.ReadBack.{written}
use Rattle.fs_msg.specs.declared.answer.Answer.{Answer}
use Rattle.fs_msg.specs.declared.client_msg.ClientMsg.{ClientMsg}
use Rattle.fs_msg.specs.declared.item.Item.{Item}
use Rattle.fs_msg.specs.declared.note.Note.{Note}
use Rattle.fs_actor.specs.Actor.{act_noted, client_noted, is_full_up, post_after}
use Rattle.fs_actor.specs.Hearing.{heard_in}
use Rattle.fs_client.specs.Acts.{act_plan, is_act_spent}
use Rattle.fs_client.specs.Answers.{answer_plan}
use Rattle.fs_client.specs.Client.{committed}
use Rattle.fs_client.specs.Turns.{turn_plan}
use Rattle.fs_client.specs.declared.plan.Plan.{Plan}
use Rattle.fs_client.specs.declared.state.Client.{Client as ClientCore}
use Rattle.fs_serial.specs.Cluster.{is_with, without_first}
use Rattle.fs_serial.specs.World.{is_called}
use Rattle.fs_serial.proofs.Lists.SetAt.{In_without}
use Rattle.fs_world.specs.Linked.{AreTied, FitsUp, GoesBetween, AreFirstOf, IsLinked, IsNamedAnswer, IsSoundState, IsSentOver, IsThere}
use Rattle.fs_world.specs.Linked.{downs_of, post_of, state_post}
use Rattle.fs_world.specs.Packets.{Packets, with_sent}
use Rattle.fs_world.specs.Planned.{WasSent}
use Rattle.fs_world.specs.Calls.{client_does, state_goes}
use Rattle.fs_world.specs.Served.{SessionStepped, SessionStates, client_acts, client_receive_packet, client_turns, up_after, with_read}
use Rattle.fs_world.specs.Served.{with_session, without_each}
use Rattle.fs_world.specs.declared.servers.session_state.SessionState.{SessionState}
use Rattle.fs_world.specs.declared.servers.world.Served.{Served}
use Rattle.fs_world.proofs.LinkedChange.{IsHeard, first_of}
use Rattle.fs_world.proofs.HeardEach.{AreNext, answers_in, gone_alike, heard_all, heard_is, heard_notes, session_after, state_heard}
use Rattle.fs_world.proofs.LinkedLists.{within}
use Rattle.fs_world.proofs.LinkedPair.{read_of}
use Rattle.fs_world.proofs.LinkedStates.{all_put, put_same, session_accepts, session_due, session_sends, with_state}
use Rattle.fs_world.proofs.NamedClients.{IsFine, IsPlanned, SendsFine, act_fine, answer_fine, committed_fine, session_kept, turn_fine}
pub use Rattle.fs_world.proofs.NamedClients.{answer_silent}
use Rattle.fs_world.proofs.LinkedFirst.{carried_then, posts_there, served_then}
use Rattle.fs_world.proofs.Seen.{joined_still}

-- ## A session's links

-- what holds of a world where this stands at the session
record IsSitting (w : Served) (s : Session) (state : SessionState) (journal : List Item) (packets : Packets) : Type 0 where
  tied : AreTied (with_state s state journal packets w)
  here : IsSoundState (length w.servers) s state

sits : (w : Served) (s : Session) (state : SessionState) → get w.sessions s.0 ≡ Some state → IsLinked w
    → IsSitting w s state w.journal w.packets
sits w s state e h = record {
  tied = subst (λ (sessions : SessionStates). AreTied (record w { sessions = sessions })) (sym (put_same w.sessions s state e)) h.ties;
  here = h.sessions s state e;
}

sitting_linked : (w : Served) (s : Session) (state : SessionState) (journal : List Item) (packets : Packets)
    → IsSitting w s state journal packets → IsLinked w → IsLinked (with_state s state journal packets w)
sitting_linked w s state journal packets k h =
    let n = length w.servers in
    record {
      posts = h.posts;
      some = h.some;
      few = h.few;
      ties = k.tied;
      servers =
          λ j c i. served_then n w.sessions (insert w.sessions s.0 state) j c (λ t g. joined_still w.sessions s t state g)
          (h.servers j c i);
      sessions = all_put (IsSoundState n) w.sessions s state k.here h.sessions;
      in_flight =
          λ f i. carried_then n w.sessions (insert w.sessions s.0 state) f (λ t g. joined_still w.sessions s t state g) (h.in_flight f i);
    }

-- ## What happens at a session

-- whoever was heard is a server that there is
abbrev pub IsOfServer : Served → Option Peer → Type 0
IsOfServer w None = Unit {0}
IsOfServer w (Some (Server k)) = k < length w.servers
IsOfServer w (Some (Client s)) = ⊥

heard_there : (w : Served) (s : Session) (state : SessionState) (journal : List Item) (packets : Packets) (heard : Option Peer)
    → IsOfServer w heard → IsLinked w → IsHeard (with_state s state journal packets w) (Client s) heard
heard_there w s state journal packets None of h = tt
heard_there w s state journal packets (Some (Server k)) of h = (posts_there w h k of, refl)
heard_there w s state journal packets (Some (Client t)) of h = absurd of

-- what is due goes out
session_goes : (w : Served) (s : Session) (turn : Bool) (heard : Option Peer) (n : Note) (state : SessionState) (journal : List Item)
    (packets : Packets) → IsOfServer w heard → IsSitting w s state journal packets → IsLinked w
    → IsLinked (with_session s (state_goes s turn heard n state journal packets) w).world
session_goes w s turn heard n state journal packets of k h =
    let now : SessionState = record state { post = (post_due state.post turn heard).links } in
    sitting_linked w s now journal (with_sent (post_due state.post turn heard).sent packets) (record {
      tied = session_due w s state now journal journal packets (with_sent (post_due state.post turn heard).sent packets) turn heard refl
          refl refl refl (heard_there w s state journal packets heard of h) k.tied;
      here = record {
        number = k.here.number;
        session = k.here.session;
        log = k.here.log;
        hints = k.here.hints;
        up = k.here.up;
        down =
            k.here.down;
      };
    }) h

up_named : (servers : ℕ) (send : Option (ℕ × ClientMsg)) (up : List (ℕ × ClientMsg)) → SendsFine servers send
    → ((m : ℕ × ClientMsg) → In m up → m.0 < servers) → (m : ℕ × ClientMsg) → In m (up_after send up) → m.0 < servers
up_named servers None up fine h m i = h m i
up_named servers (Some x) up fine h m i =
    In-more m up x (m.0 < servers) (λ j. h m j) (λ e. subst (λ (y : ℕ × ClientMsg). y.0 < servers) (sym e) fine.0) i

-- the state of a session whose client has changed as planned, and sends
abbrev planned_state : Plan Note → SessionState → SessionState
planned_state p state = record state {
  client = committed p.ready state.client;
  post = post_after p.out.send state.post;
  up =
      up_after p.out.send state.up;
}

-- the client does what it planned
session_does : (w : Served) (s : Session) (turn : Bool) (heard : Option Peer) (spent : Bool) (p : Plan Note) (state : SessionState)
    (journal : List Item) (packets : Packets) → IsOfServer w heard → IsPlanned (length w.servers) p → FitsUp p.out.send
    → is_full_up p.out.send state.post ≡ false
    → IsSitting w s state journal packets → IsLinked w
    → IsLinked (with_session s (client_does s turn heard spent p state journal packets) w).world
session_does w s turn heard spent p state journal packets of planned fits room k h =
    let n = length w.servers in
    let sent : SessionState = record state { post = post_after p.out.send state.post; up = up_after p.out.send state.up } in
    let due = post_due (planned_state p state).post turn heard in
    let now : SessionState = record (planned_state p state) { post = due.links } in
    let fine : IsFine n (committed p.ready state.client) =
    committed_fine n p state.client planned (record { log = k.here.log; hints = k.here.hints }) in
    sitting_linked w s now (with_read p.out.admitted journal) (with_sent due.sent packets) (record {
      tied = session_due w s sent now journal (with_read p.out.admitted journal) packets (with_sent due.sent packets) turn heard refl refl
          refl refl (heard_there w s sent journal packets heard of h)
          (session_sends w s state journal packets n p.out.send (λ j few. posts_there w h j few) planned.sends fits room k.tied);
      here = record {
        number = k.here.number;
        session = session_kept p.ready state.client ∙ k.here.session;
        log = fine.log;
        hints = fine.hints;
        up = up_named n p.out.send state.up planned.sends k.here.up;
        down = k.here.down;
      };
    }) h

zero_below : (w : Served) → IsLinked w → 0 < length w.servers
zero_below w h = let some = h.some in omega arith

fine_at : (w : Served) (s : Session) (state : SessionState) → get w.sessions s.0 ≡ Some state → IsLinked w
    → IsFine (length w.servers) state.client
fine_at w s state e h = let k = h.sessions s state e in record { log = k.log; hints = k.hints }

-- the session's user asks for an operation
pub act_linked : (w : Served) (s : Session) (state : SessionState) (now : ℕ) (o : Op) → get w.sessions s.0 ≡ Some state
    → is_called o ≡ true → FitsUp (act_plan state.client now o).out.send
    → is_full_up (act_plan state.client now o).out.send state.post ≡ false
    → IsLinked w → IsLinked (with_session s (client_acts now s o state w.journal w.packets) w).world
act_linked w s state now o e called fits room h =
    let planned = act_fine (length w.servers) (zero_below w h) state.client now o called (fine_at w s state e h) in
    session_does w s false None (is_act_spent state.client now o) (act_noted (act_plan state.client now o)) state w.journal w.packets tt
    (record { joins = planned.joins; hints = planned.hints; sends = planned.sends }) fits room (sits w s state e h) h

pub turn_linked : (w : Served) (s : Session) (state : SessionState) (now : ℕ) → get w.sessions s.0 ≡ Some state
    → FitsUp (turn_plan state.client now).out.send → is_full_up (turn_plan state.client now).out.send state.post ≡ false
    → IsLinked w → IsLinked (with_session s (client_turns now s state w.journal w.packets) w).world
turn_linked w s state now e fits room h =
    let planned = turn_fine (length w.servers) (zero_below w h) state.client now (fine_at w s state e h) in
    session_does w s true None false (client_noted (turn_plan state.client now)) state w.journal w.packets tt (record {
      joins =
          planned.joins;
      hints = planned.hints;
      sends = planned.sends;
    }) fits room (sits w s state e h) h

-- ## What was sent

pub sent_between : (w : Served) (x : Sent) → In x w.packets.sent → IsLinked w → GoesBetween w x
sent_between w x i h = h.ties.between x i

-- it went from one to another, and both are there
pub record WentBetween (w : Served) (a b : Peer) : Type 0 where
  pub from : IsThere w a
  pub to : IsThere w b
  pub apart : same_peer a b ≡ false

pub went : (w : Served) (a b : Peer) (p : Packet) → WasSent a b (Some p) w.packets.sent → IsLinked w → WentBetween w a b
went w a b p x h =
    let g = h.ties.between x.sent x.among in
    record {
      from = subst (IsThere w) x.sender g.from;
      to = subst (IsThere w) x.addressee g.to;
      apart = subst (λ (c : Peer). same_peer c b ≡ false) x.sender (subst (λ (c : Peer). same_peer x.sent.from c ≡ false) x.addressee
          g.apart);
    }

pub packet_of : (w : Served) (a b : Peer) (p q : Links) (packet : Packet) → post_of w a ≡ Some p → post_of w b ≡ Some q
    → WasSent a b (Some packet) w.packets.sent → IsLinked w → IsPacketOf (link_with p b).window (link_with q a).window packet
packet_of w a b p q packet i j x h =
    let g = went w a b packet x h in
    read_of (link_with p b) (link_with q a) x.sent.bytes packet x.read ((h.ties.pairs a b p q g.apart i j).packets x.sent x.among x.sender
    x.addressee)

-- what was sent is a packet
text_read : (a b : Link) (bytes : List ℕ) → IsSentOver a b bytes → (p : Packet) × (packet_at bytes ≡ Some p)
text_read a b bytes q = (q.packet, ap packet_at q.text ∙ written q.packet q.spelled)

pub sent_read : (w : Served) (x : Sent) → In x w.packets.sent → IsLinked w → (p : Packet) × (packet_at x.bytes ≡ Some p)
sent_read w x i h =
    let g = h.ties.between x i in
    text_read (link_with g.from.0 x.to) (link_with g.to.0 x.from) x.bytes
    ((h.ties.pairs x.from x.to g.from.0 g.to.0 g.apart g.from.1 g.to.1).packets x i refl refl)

-- ## A packet of a server comes to a session

pub receive_packet_state_first : (w : Served) (s : Session) (state : SessionState) (k : ℕ) (p : Packet) → get w.sessions s.0 ≡ Some state
    → WasSent (Server k) (Client s) (Some p) w.packets.sent
    → IsLinked w → AreFirstOf (post_accepted state.post (Server k) p).heard.joined (downs_of k (Some state))
receive_packet_state_first w s state k p e x h =
    let g = went w (Server k) (Client s) p x h in
    subst (λ (o : Option SessionState). AreFirstOf (post_accepted state.post (Server k) p).heard.joined (downs_of k o)) e
    (first_of (Client s) (Server k) state.post g.from.0 p w (ap state_post e) g.from.1 refl
    (packet_of w (Server k) (Client s) g.from.0 state.post p g.from.1 (ap state_post e) x h) h.ties)

of_server : (w : Served) (k : ℕ) (p : Packet) → k < length w.servers → IsOfServer w (heard_in (Server k) p)
of_server w k p few = either (is_some p.body)
  where
    either : (b : Bool) → IsOfServer w (cond b (Some (Server k)) None)
    either true = few
    either false = tt

down_gone : {Y : Type 0} (servers : ℕ) (gone : List Y) (is : ℕ × Answer → Bool) (down : List (ℕ × Answer))
    → ((m : ℕ × Answer) → In m down → (m.0 < servers) × IsNamedAnswer servers m.1) → (m : ℕ × Answer) → In m (without_each gone is down)
    → (m.0 < servers) × IsNamedAnswer servers m.1
down_gone servers [] is down h m i = h m i
down_gone servers (y ∷ ys) is down h m i = down_gone servers ys is (without_first is down) (λ n j. h n (In_without is down n j)) m i

-- a client that hears answers which name servers that there are knows of no others
heard_fine : (servers : ℕ) → 0 < servers → (now k : ℕ) (answers : List Answer) (down : List (ℕ × Answer)) (c : ClientCore)
    → AreNext k answers down → ((m : ℕ × Answer) → In m down → (m.0 < servers) × IsNamedAnswer servers m.1) → IsFine servers c
    → IsFine servers (heard_all now k answers c)
heard_fine servers some now k [] down c next named h = h
heard_fine servers some now k (a ∷ answers) down c next named h =
    let p = answer_plan c now k a in
    let planned = answer_fine servers some c now k a (named (k, a) (found (is_with k) down (k, a) next.0).0).1 h in
    heard_fine servers some now k answers (without_first (is_with k) down) (committed p.ready c) next.1
    (λ m i. named m (In_without (is_with k) down m i))
    (committed_fine servers (client_noted p) c (record { joins = planned.joins; hints = planned.hints; sends = planned.sends }) h)

heard_kept : (now k : ℕ) (answers : List Answer) (c : ClientCore) → (heard_all now k answers c).session ≡ c.session
heard_kept now k [] c = refl
heard_kept now k (a ∷ answers) c = heard_kept now k answers (committed (answer_plan c now k a).ready c)
    ∙ session_kept (answer_plan c now k a).ready c

session_heard : (w : Served) (s : Session) (now k : ℕ) (from : Option Peer) (answers : List Answer) (notes : List Note)
    (state : SessionState) (journal : List Item) (packets : Packets)
    → IsOfServer w from → IsFine (length w.servers) (heard_all now k answers state.client)
    → IsSitting w s (record state { down = without_each answers (is_with k) state.down }) journal packets → IsLinked w
    → IsLinked (with_session s (state_heard s now k from answers notes state journal packets) w).world
session_heard w s now k from answers notes state journal packets of fine sitting h =
    let due = post_due state.post false from in
    let left : SessionState = record state { down = without_each answers (is_with k) state.down } in
    let then : SessionState = session_after now k answers due.links state in
    sitting_linked w s then journal (with_sent due.sent packets) (record {
      tied = session_due w s left then journal journal packets (with_sent due.sent packets) false from refl refl refl refl
          (heard_there w s left journal packets from of h) sitting.tied;
      here = record {
        number = sitting.here.number;
        session = heard_kept now k answers state.client ∙ sitting.here.session;
        log = fine.log;
        hints = fine.hints;
        up = sitting.here.up;
        down = sitting.here.down;
      };
    }) h

pub receive_packet_state_linked : (w : Served) (s : Session) (state : SessionState) (now k : ℕ) (p : Packet)
    → get w.sessions s.0 ≡ Some state → WasSent (Server k) (Client s) (Some p) w.packets.sent
    → IsLinked w → IsLinked (with_session s (client_receive_packet now s k p state w.journal w.packets) w).world
receive_packet_state_linked w s state now k p e x h =
    let g = went w (Server k) (Client s) p x h in
    let a = post_accepted state.post (Server k) p in
    let few : k < length w.servers = subst (λ (n : ℕ). k < n) h.posts (within w.posts k g.from.0 g.from.1) in
    let start = sits w s state e h in
    let found_there = h.sessions s state e in
    let now_there : SessionState = record state { post = a.links } in
    let heard = answers_in k a.heard.joined state.down (receive_packet_state_first w s state k p e x h) in
    let sitting : IsSitting w s (record now_there { down = without_each a.heard.joined (is_with k) state.down }) w.journal w.packets =
    record {
      tied = session_accepts w s state k g.from.0 p w.journal w.packets g.from.1
          (packet_of w (Server k) (Client s) g.from.0 state.post p g.from.1 (ap state_post e) x h) start.tied;
      here = record {
        number = found_there.number;
        session = found_there.session;
        log = found_there.log;
        hints = found_there.hints;
        up = found_there.up;
        down = down_gone (length w.servers) a.heard.joined (is_with k) state.down found_there.down;
      };
    } in
    subst (λ (x : SessionStepped). IsLinked (with_session s x w).world)
    (sym (heard_is s now k (heard_in (Server k) p) a.heard heard.0 now_there w.journal w.packets heard.1))
    (session_heard w s now k (heard_in (Server k) p) heard.0 (heard_notes a.heard now k heard.0 state.client) now_there w.journal w.packets
    (of_server w k p few)
    (heard_fine (length w.servers) (zero_below w h) now k heard.0 state.down state.client heard.2 found_there.down (record {
      log =
          found_there.log;
      hints = found_there.hints;
    }))
    (subst (λ (down : List (ℕ × Answer)). IsSitting w s (record now_there { down = down }) w.journal w.packets)
    (gone_alike k a.heard.joined heard.0 (is_with k) state.down heard.1) sitting) h)
