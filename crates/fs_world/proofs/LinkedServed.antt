-- What happens at a server: what others see of it, and what happens to the links.
use Rattle.std.proofs.Common.{◌≡◌, ◌≢◌, ◌∙◌, ◌<◌, ◌==◌, ℕ, Bool, true, false, List, [], ◌∷◌, ◌++◌, length, map, Option, Some, refl, sym, ap}
use Rattle.std.proofs.Common.{subst, cond, append-nil, append_assoc, arith}
use Rattle.std.specs.Cmp.{nat_cmp_total}
use Rattle.std.specs.FinMap.{get, get-insert, get_tied, insert}
use Rattle.std.specs.Ordering.{eq_by_cmp, nat_cmp}
use Rattle.std.specs.Prelude.{◌&&◌, slice_get}
use Rattle.std.proofs.lemmas.Bool.{eqb-true, leb-false}
use Rattle.fs_ident.specs.declared.actor.Peer.{Peer}
use Rattle.fs_ident.specs.declared.actor.Peer.TheVariants.{Server, Client}
use Rattle.fs_ident.specs.declared.actor.Session.{Session}
use Rattle.fs_ident.proofs.Booleans.{equal_is, first, neither, second, joined}
use Rattle.fs_ident.proofs.Same.{itself}
use Rattle.fs_frag.specs.declared.joined.Joined.{Joined}
use Rattle.fs_window.specs.declared.packet.Packet.{Packet}
use Rattle.fs_window.specs.declared.sent.Sent.{Sent}
use Rattle.fs_window.specs.OnTheWay.{IsPacketOf}
use Rattle.fs_window.specs.Peers.{same_peer}
use Rattle.fs_window.specs.Post.{Links, link_with, post_accepted, post_due, post_pushed}
use Rattle.fs_msg.specs.Readable.{is_readable}
use Rattle.fs_msg.specs.Spelling.{message}
use Rattle.fs_msg.specs.declared.answer.Answer.{Answer}
use Rattle.fs_msg.specs.declared.client_msg.ClientMsg.{ClientMsg}
use Rattle.fs_msg.specs.declared.msg.Msg.{Msg}
use Rattle.fs_msg.specs.declared.msg.Msg.TheVariants as msg
use Rattle.fs_msg.specs.declared.peer_msg.PeerMsg.{PeerMsg}
use Rattle.fs_actor.specs.Actor.{is_full_down, is_full_for, with_pushed}
use Rattle.fs_serial.specs.Cluster.{in_flight_from, is_between, is_with}
use Rattle.fs_serial.specs.declared.in_flight.InFlight.{InFlight}
use Rattle.fs_wire.specs.Readable.{is_readable_session}
use Rattle.fs_world.specs.Linked.{AreTied, FitsDown, HasJoined, IsWritten, between, downs_of, flying_between, post_of, state_post, ups_of}
use Rattle.fs_world.specs.Packets.{Packets, with_sent}
use Rattle.fs_world.specs.Served.{SessionStates, ServerStepped, with_down, with_down_at, with_downs, with_server, without_each}
use Rattle.fs_world.specs.declared.servers.session_state.SessionState.{SessionState}
use Rattle.fs_world.specs.declared.servers.world.Served.{Served}
use Rattle.fs_world.proofs.LinkedChange.{Changes, IsHeard, peer_is, tied_accepted, tied_due, tied_pushed}
use Rattle.fs_world.proofs.LinkedLists.{got_set, no_more, one_more}
use Rattle.fs_world.proofs.LinkedPair.{rest_of}
use Rattle.fs_world.proofs.LinkedStates.{got_here, number_apart, others_taken, rest_taken, turned_apart, with_other}
use Rattle.fs_world.proofs.NamedServers.{AreSent, sent_readable}
use Rattle.fs_world.proofs.SeenSends.{down_joined}

-- the world while the server is so far
abbrev pub serving : ℕ → ServerStepped → Served → Served
serving k x w = (with_server k x w).world

-- what others than the server see is the same
pub record Elsewhere (k : ℕ) (x y : ServerStepped) : Type 0 where
  pub posts : (t : ℕ) → state_post (get y.sessions t) ≡ state_post (get x.sessions t)
  pub ups : (j t : ℕ) → same_peer (Server j) (Server k) ≡ false → ups_of j (get y.sessions t) ≡ ups_of j (get x.sessions t)
  pub downs : (j t : ℕ) → same_peer (Server j) (Server k) ≡ false → downs_of j (get y.sessions t) ≡ downs_of j (get x.sessions t)
  pub parcels : (i j : ℕ) → same_peer (Server i) (Server k) ≡ false → same_peer (Server j) (Server k) ≡ false
      → flying_between i j y.in_flight ≡ flying_between i j x.in_flight

-- servers with different numbers are not one
abbrev number_of : Peer → ℕ
number_of (Server n) = n
number_of (Client s) = 0

pub different : (a b : ℕ) → a ≢ b → same_peer (Server a) (Server b) ≡ false
different a b g = either (same_peer (Server a) (Server b)) refl
  where
    either : (t : Bool) → same_peer (Server a) (Server b) ≡ t → same_peer (Server a) (Server b) ≡ false
    either true e = absurd (g (ap number_of (peer_is (Server a) (Server b) e)))
    either false e = e

module _ (w : Served) (k : ℕ) (there : k < length w.posts) where
  abbrev at : ServerStepped → Served
  at x = serving k x w

  pub server_post : (x : ServerStepped) → post_of (at x) (Server k) ≡ Some x.post
  server_post x = got_set w.posts k k x.post there ∙ ap (λ (b : Bool). cond b (Some x.post) (slice_get w.posts k)) (itself k)

  pub other_post : (x : ServerStepped) (j : ℕ) → same_peer (Server j) (Server k) ≡ false → post_of (at x) (Server j) ≡ slice_get w.posts j
  other_post x j e = got_set w.posts k j x.post there ∙ ap (λ (b : Bool). cond b (Some x.post) (slice_get w.posts j)) (number_apart j k e)

  pub server_changes : (x y : ServerStepped) (more : List Sent) → Elsewhere k x y → y.packets.sent ≡ x.packets.sent ++ more
      → Changes (Server k) y.post (at x) (at y) more
  server_changes x y more h e = record { here = server_post y; there = others; ways = ways; packets = e }
    where
      others : (b : Peer) → same_peer b (Server k) ≡ false → post_of (at y) b ≡ post_of (at x) b
      others (Client t) f = h.posts t.0
      others (Server j) f = other_post y j f ∙ sym (other_post x j f)

      ways : (b c : Peer) → same_peer b (Server k) ≡ false → same_peer c (Server k) ≡ false → between (at y) b c ≡ between (at x) b c
      ways (Client t) (Server j) f g = h.ups j t.0 g
      ways (Server j) (Client t) f g = h.downs j t.0 f
      ways (Server i) (Server j) f g = h.parcels i j f g
      ways (Client t) (Client u) f g = refl

  -- ## What is due goes out

  pub server_due : (x y : ServerStepped) (turn : Bool) (heard : Option Peer) → y.post ≡ (post_due x.post turn heard).links
      → y.packets ≡ with_sent (post_due x.post turn heard).sent x.packets → y.sessions ≡ x.sessions → y.in_flight ≡ x.in_flight
      → IsHeard (at x) (Server k) heard → AreTied (at x) → AreTied (at y)
  server_due x y turn heard post sent sessions in_flight of h =
      tied_due (Server k) x.post turn heard (at x) (at y) (server_post x) of
      (subst (λ (p : Links). Changes (Server k) p (at x) (at y) (post_due x.post turn heard).sent) post
      (server_changes x y (post_due x.post turn heard).sent (record {
        posts = λ t. ap (λ (m : SessionStates). state_post (get m t)) sessions;
        ups = λ j t f. ap (λ (m : SessionStates). ups_of j (get m t)) sessions;
        downs = λ j t f. ap (λ (m : SessionStates). downs_of j (get m t)) sessions;
        parcels = λ i j f g. ap (λ (fs : List InFlight). flying_between i j fs) in_flight;
      }) (ap (λ (p : Packets). p.sent) sent)))
      ways h
    where
      ways : (b c : Peer) → between (at y) b c ≡ between (at x) b c
      ways (Client t) (Server j) = ap (λ (m : SessionStates). ups_of j (get m t.0)) sessions
      ways (Server j) (Client t) = ap (λ (m : SessionStates). downs_of j (get m t.0)) sessions
      ways (Server i) (Server j) = ap (λ (fs : List InFlight). flying_between i j fs) in_flight
      ways (Client t) (Client u) = refl

  -- ## An answer goes to a session that has joined

  -- what is the same of the session with the answer is the same wherever one looks
  unseen_down : {X : Type 0} (f : Option SessionState → X) (sessions : SessionStates) (s : Session) (state new : SessionState)
      → get sessions s.0 ≡ Some state → f (Some new) ≡ f (Some state) → (t : ℕ) → f (get (insert sessions s.0 new) t) ≡ f (get sessions t)
  unseen_down f sessions s state new is same t = ap f (get-insert nat_cmp_total sessions s.0 new t) ∙ either (eq_by_cmp nat_cmp t s.0) refl
    where
      either : (b : Bool) → eq_by_cmp nat_cmp t s.0 ≡ b → f (cond b (Some new) (get sessions t)) ≡ f (get sessions t)
      either true e = same ∙ sym (ap f is) ∙ ap f (get_tied nat_cmp_total sessions t s.0 (equal_is _ e))
      either false e = refl

  abbrev answering : Session → Answer → ServerStepped → ServerStepped
  answering s a x = record x {
    post = post_pushed x.post (Client s) (message (msg.Answer a));
    sessions =
        with_down k (Client s, msg.Answer a) x.sessions;
  }

  answered : (s : Session) (a : Answer) (x : ServerStepped) (state : SessionState) → get x.sessions s.0 ≡ Some state
      → is_readable (msg.Answer a) ≡ true → IsWritten (msg.Answer a) → is_full_for x.post (Client s) (message (msg.Answer a)) ≡ false
      → AreTied (at x) → AreTied (at (answering s a x))
  answered s a x state is readable written room h =
      subst (λ (m : SessionStates). AreTied (at (record x {
        post = post_pushed x.post (Client s) (message (msg.Answer a));
        sessions =
            m;
      }))) (sym (ap (λ (o : Option SessionState). with_down_at o s.0 (k, a) x.sessions) is))
      (tied_pushed (Server k) (Client s) x.post state.post (msg.Answer a) (at x) (at later) (server_post x) (ap state_post is) refl
      (written.fits readable) written.short (let free = leb-false _ _ room in omega (arith, free))
      (server_changes x later [] elsewhere (sym (append-nil x.packets.sent))) out
      (unseen_down (ups_of k) x.sessions s state new is refl s.0) others h)
    where
      new : SessionState
      new = record state { down = state.down ++ (k, a) ∷ [] }

      later : ServerStepped
      later = record x { post = post_pushed x.post (Client s) (message (msg.Answer a)); sessions = insert x.sessions s.0 new }

      f : ℕ × Answer → Msg
      f m = msg.Answer m.1

      elsewhere : Elsewhere k x later
      elsewhere = record {
        posts = λ t. unseen_down state_post x.sessions s state new is refl t;
        ups = λ j t e. unseen_down (ups_of j) x.sessions s state new is refl t;
        downs = λ j t e. unseen_down (downs_of j) x.sessions s state new is
            (ap (λ (ms : List (ℕ × Answer)). map f ms) (no_more (is_with j) state.down (k, a) (turned_apart j k e))) t;
        parcels = λ i j e g. refl;
      }

      out : downs_of k (get (insert x.sessions s.0 new) s.0) ≡ downs_of k (get x.sessions s.0) ++ msg.Answer a ∷ []
      out = ap (downs_of k) (got_here x.sessions s new) ∙ one_more f (is_with k) state.down (k, a) (itself k)
          ∙ ap (λ (o : Option SessionState). downs_of k o ++ msg.Answer a ∷ []) (sym is)

      others : (c : Peer) → same_peer c (Client s) ≡ false
          → (between (at later) (Server k) c ≡ between (at x) (Server k) c) × (between (at later) c (Server k) ≡ between (at x) c
          (Server k))
      others (Client t) e = (
        ap (downs_of k) (get-insert nat_cmp_total x.sessions s.0 new t.0 ∙ ap (λ (b : Bool). cond b (Some new) (get x.sessions t.0)) e),
        unseen_down (ups_of k) x.sessions s state new is refl t.0,
      )
      others (Server j) e = (refl, refl)

  -- ## A message goes to another server

  abbrev flies : ℕ → PeerMsg → InFlight
  flies to m = record { from = k; to = to; message = m }

  abbrev moving : ℕ → PeerMsg → ServerStepped → ServerStepped
  moving to p x = record x { post = post_pushed x.post (Server to) (message (msg.Peer p)); in_flight = x.in_flight ++ flies to p ∷ [] }

  both_false : (a b : Bool) → b ≡ false → (a && b) ≡ false
  both_false true b e = e
  both_false false b e = refl

  one_false : (a b : Bool) → a ≡ false → (a && b) ≡ false
  one_false true b e = absurd (cc)
  one_false false b e = refl

  moved : (to : ℕ) (p : PeerMsg) (x : ServerStepped) (q : Links) → slice_get w.posts to ≡ Some q → k ≢ to → is_readable (msg.Peer p) ≡ true
      → IsWritten (msg.Peer p) → is_full_for x.post (Server to) (message (msg.Peer p)) ≡ false → AreTied (at x)
      → AreTied (at (moving to p x))
  moved to p x q is differ readable written room h =
      tied_pushed (Server k) (Server to) x.post q (msg.Peer p) (at x) (at (moving to p x)) (server_post x) (other_post x to there_other
      ∙ is) here_other
      (written.fits readable) written.short (let free = leb-false _ _ room in omega (arith, free))
      (server_changes x (moving to p x) [] elsewhere (sym (append-nil x.packets.sent))) out back others h
    where
      f : InFlight → Msg
      f m = msg.Peer m.message

      here_other : same_peer (Server k) (Server to) ≡ false
      here_other = different k to differ

      there_other : same_peer (Server to) (Server k) ≡ false
      there_other = different to k (λ e. differ (sym e))

      elsewhere : Elsewhere k x (moving to p x)
      elsewhere = record {
        posts = λ t. refl;
        ups = λ j t e. refl;
        downs = λ j t e. refl;
        parcels = λ i j e g. ap (λ (ms : List InFlight). map f ms)
            (no_more (is_between i j) x.in_flight (flies to p) (one_false (k == i) (to == j) (turned_apart i k e)));
      }

      out : flying_between k to (x.in_flight ++ flies to p ∷ []) ≡ flying_between k to x.in_flight ++ msg.Peer p ∷ []
      out = one_more f (is_between k to) x.in_flight (flies to p) (joined (k == k) (to == to) (itself k) (itself to))

      back : flying_between to k (x.in_flight ++ flies to p ∷ []) ≡ flying_between to k x.in_flight
      back = ap (λ (ms : List InFlight). map f ms)
          (no_more (is_between to k) x.in_flight (flies to p) (one_false (k == to) (to == k) (number_apart k to here_other)))

      others : (c : Peer) → same_peer c (Server to) ≡ false
          → (between (at (moving to p x)) (Server k) c ≡ between (at x) (Server k) c) × (between (at (moving to p x)) c
          (Server k) ≡ between (at x) c (Server k))
      others (Client t) e = (refl, refl)
      others (Server j) e = (
        ap (λ (ms : List InFlight). map f ms)
            (no_more (is_between k j) x.in_flight (flies to p) (both_false (k == k) (to == j) (turned_apart j to e))),
        ap (λ (ms : List InFlight). map f ms)
            (no_more (is_between j k) x.in_flight (flies to p) (both_false (k == j) (to == k) (number_apart to k there_other))),
      )

  -- ## All that is sent, one after another

  abbrev sending : List (Peer × Msg) → ServerStepped → ServerStepped
  sending xs x =
      record x { post = with_pushed xs x.post; sessions = with_downs k xs x.sessions; in_flight = x.in_flight ++ in_flight_from k xs }

  module _ (servers : ℕ) (sessions : SessionStates) (posts : (j : ℕ) → j < servers → (q : Links) × (slice_get w.posts j ≡ Some q))
      (readable : (s : Session) → HasJoined sessions s → is_readable_session s ≡ true) where
    pub server_sends : (xs : List (Peer × Msg)) (x : ServerStepped) → ((t : Session) → HasJoined sessions t → HasJoined x.sessions t)
        → AreSent servers sessions k xs → FitsDown xs → is_full_down xs x.post ≡ false → AreTied (at x) → AreTied (at (sending xs x))
    server_sends [] x joined sent fits room h =
        subst (λ (fs : List InFlight). AreTied (at (record x { in_flight = fs }))) (sym (append-nil x.in_flight)) h
    server_sends ((Client s, msg.Answer a) ∷ xs) x joined sent fits room h =
        let rooms = neither (is_full_for x.post (Client s) (message (msg.Answer a)))
        (is_full_down xs (post_pushed x.post (Client s) (message (msg.Answer a)))) room in
        let state = joined s sent.0.0 in
        server_sends xs (answering s a x) (λ t g. down_joined k (Client s, msg.Answer a) x.sessions t (joined t g)) sent.1 fits.1 rooms.1
        (answered s a x state.0 state.1 sent.0.2 fits.0 rooms.0 h)
    server_sends ((Client s, msg.Client m) ∷ xs) x joined sent fits room h = absurd sent.0
    server_sends ((Client s, msg.Peer m) ∷ xs) x joined sent fits room h = absurd sent.0
    server_sends ((Server to, msg.Peer p) ∷ xs) x joined sent fits room h =
        let rooms = neither (is_full_for x.post (Server to) (message (msg.Peer p)))
        (is_full_down xs (post_pushed x.post (Server to) (message (msg.Peer p)))) room in
        let q = posts to sent.0.to in
        subst (λ (fs : List InFlight). AreTied (at (record (sending xs (moving to p x)) { in_flight = fs })))
        (append_assoc x.in_flight (flies to p ∷ []) (in_flight_from k xs))
        (server_sends xs (moving to p x) joined sent.1 fits.1 rooms.1
        (moved to p x q.0 q.1 sent.0.apart (sent_readable servers sessions k (Server to, msg.Peer p) readable sent.0) fits.0 rooms.0 h))
    server_sends ((Server to, msg.Answer a) ∷ xs) x joined sent fits room h = absurd sent.0
    server_sends ((Server to, msg.Client m) ∷ xs) x joined sent fits room h = absurd sent.0

  -- ## A packet comes

  -- of a session
  abbrev hearing : Session → SessionState → Packet → ServerStepped → ServerStepped
  hearing s state p x = record x {
    post = (post_accepted x.post (Client s) p).links;
    sessions =
        insert x.sessions s.0 (record state { up = without_each (post_accepted x.post (Client s) p).heard.joined (is_with k) state.up });
  }

  pub server_hears_session : (s : Session) (state : SessionState) (p : Packet) (x : ServerStepped) → get x.sessions s.0 ≡ Some state
      → IsPacketOf (link_with state.post (Server k)).window (link_with x.post (Client s)).window p → AreTied (at x)
      → AreTied (at (hearing s state p x))
  server_hears_session s state p x is of h =
      tied_accepted (Server k) (Client s) x.post state.post p (at x) (at (hearing s state p x)) (server_post x) (ap state_post is) refl of
      (server_changes x (hearing s state p x) [] elsewhere (sym (append-nil x.packets.sent)))
      (unseen_down (downs_of k) x.sessions s state new is refl s.0) back others h
    where
      joined : List Joined
      joined = (post_accepted x.post (Client s) p).heard.joined

      new : SessionState
      new = record state { up = without_each joined (is_with k) state.up }

      f : ℕ × ClientMsg → Msg
      f m = msg.Client m.1

      elsewhere : Elsewhere k x (hearing s state p x)
      elsewhere = record {
        posts = λ t. unseen_down state_post x.sessions s state new is refl t;
        ups = λ j t e. unseen_down (ups_of j) x.sessions s state new is
            (ap (λ (ms : List (ℕ × ClientMsg)). map f ms)
            (others_taken joined (is_with k) (is_with j) state.up (λ m q. with_other j k m e q))) t;
        downs = λ j t e. unseen_down (downs_of j) x.sessions s state new is refl t;
        parcels = λ i j e g. refl;
      }

      back : ups_of k (get (insert x.sessions s.0 new) s.0) ≡ rest_of joined (ups_of k (get x.sessions s.0))
      back = ap (ups_of k) (got_here x.sessions s new) ∙ rest_taken f joined (is_with k) state.up
          ∙ ap (λ (o : Option SessionState). rest_of joined (ups_of k o)) (sym is)

      others : (c : Peer) → same_peer c (Client s) ≡ false
          → (between (at (hearing s state p x)) (Server k) c ≡ between (at x) (Server k) c) × (between (at (hearing s state p x)) c
          (Server k) ≡ between (at x) c (Server k))
      others (Client t) e = (
        unseen_down (downs_of k) x.sessions s state new is refl t.0,
        ap (ups_of k) (get-insert nat_cmp_total x.sessions s.0 new t.0 ∙ ap (λ (b : Bool). cond b (Some new) (get x.sessions t.0)) e),
      )
      others (Server j) e = (refl, refl)

  -- of another server
  abbrev receiving : ℕ → Packet → ServerStepped → ServerStepped
  receiving j p x = record x {
    post = (post_accepted x.post (Server j) p).links;
    in_flight =
        without_each (post_accepted x.post (Server j) p).heard.joined (is_between j k) x.in_flight;
  }

  pub server_hears_server : (j : ℕ) (post : Links) (p : Packet) (x : ServerStepped) → slice_get w.posts j ≡ Some post
      → same_peer (Server j) (Server k) ≡ false → same_peer (Server k) (Server j) ≡ false
      → IsPacketOf (link_with post (Server k)).window (link_with x.post (Server j)).window p → AreTied (at x)
      → AreTied (at (receiving j p x))
  server_hears_server j post p x is apart_there apart_here of h =
      tied_accepted (Server k) (Server j) x.post post p (at x) (at (receiving j p x)) (server_post x) (other_post x j apart_there
      ∙ is) apart_here of
      (server_changes x (receiving j p x) [] elsewhere (sym (append-nil x.packets.sent))) out back others h
    where
      joined : List Joined
      joined = (post_accepted x.post (Server j) p).heard.joined

      f : InFlight → Msg
      f m = msg.Peer m.message

      -- what goes there does not go elsewhere
      to_other : (i n : ℕ) → same_peer (Server n) (Server k) ≡ false → (m : InFlight) → is_between j k m ≡ true → is_between i n m ≡ false
      to_other i n e m q = both_false (m.from == i) (m.to == n)
          (ap (λ (t : ℕ). t == n) (eqb-true m.to k (second (m.from == j) (m.to == k) q)) ∙ turned_apart n k e)

      from_other : (i n : ℕ) → same_peer (Server i) (Server j) ≡ false → (m : InFlight) → is_between j k m ≡ true → is_between i n m ≡ false
      from_other i n e m q = one_false (m.from == i) (m.to == n)
          (ap (λ (t : ℕ). t == i) (eqb-true m.from j (first (m.from == j) (m.to == k) q)) ∙ turned_apart i j e)

      elsewhere : Elsewhere k x (receiving j p x)
      elsewhere = record {
        posts = λ t. refl;
        ups = λ i t e. refl;
        downs = λ i t e. refl;
        parcels = λ i n e g. ap (λ (ms : List InFlight). map f ms) (others_taken joined (is_between j k) (is_between i n) x.in_flight
            (λ m q. to_other i n g m q));
      }

      out : flying_between k j (without_each joined (is_between j k) x.in_flight) ≡ flying_between k j x.in_flight
      out = ap (λ (ms : List InFlight). map f ms) (others_taken joined (is_between j k) (is_between k j) x.in_flight
          (λ m q. from_other k j apart_here m q))

      back : flying_between j k (without_each joined (is_between j k) x.in_flight) ≡ rest_of joined (flying_between j k x.in_flight)
      back = rest_taken f joined (is_between j k) x.in_flight

      others : (c : Peer) → same_peer c (Server j) ≡ false
          → (between (at (receiving j p x)) (Server k) c ≡ between (at x) (Server k) c) × (between (at (receiving j p x)) c
          (Server k) ≡ between (at x) c (Server k))
      others (Client t) e = (refl, refl)
      others (Server i) e = (
        ap (λ (ms : List InFlight). map f ms) (others_taken joined (is_between j k) (is_between k i) x.in_flight
            (λ m q. from_other k i apart_here m q)),
        ap (λ (ms : List InFlight). map f ms)
            (others_taken joined (is_between j k) (is_between i k) x.in_flight (λ m q. from_other i k e m q)),
      )
