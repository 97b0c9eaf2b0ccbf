-- What stands at a session is put: what others see of it, and what happens to the links.
use Rattle.std.proofs.Common.{◌≡◌, ◌∙◌, ◌<◌, ◌==◌, ℕ, Bool, true, false, List, [], ◌∷◌, ◌++◌, map, filter, Option, Some, None, refl, sym}
use Rattle.std.proofs.Common.{ap, subst, cond, append-nil, arith}
use Rattle.std.specs.Cmp.{nat_cmp_total}
use Rattle.std.specs.FinMap.{get, get-insert, insert, nat_cmp-IsAntisymmetric, same_map}
use Rattle.std.specs.Ordering.{eq_by_cmp, nat_cmp}
use Rattle.std.specs.Prelude.{slice_get}
use Rattle.std.proofs.lemmas.Bool.{eqb-true, leb-false}
use Rattle.fs_ident.specs.declared.actor.Peer.{Peer}
use Rattle.fs_ident.specs.declared.actor.Peer.TheVariants.{Server, Client}
use Rattle.fs_ident.specs.declared.actor.Session.{Session}
use Rattle.fs_ident.proofs.Booleans.{equal_is}
use Rattle.fs_ident.proofs.Same.{itself}
use Rattle.fs_frag.specs.declared.joined.Joined.{Joined}
use Rattle.fs_window.specs.declared.packet.Packet.{Packet}
use Rattle.fs_window.specs.declared.sent.Sent.{Sent}
use Rattle.fs_window.specs.OnTheWay.{IsPacketOf}
use Rattle.fs_window.specs.Peers.{same_peer}
use Rattle.fs_window.specs.Post.{Links, link_with, post_accepted, post_due}
use Rattle.fs_window.proofs.Actors.{tied_self}
use Rattle.fs_window.proofs.Lists.{some_is}
use Rattle.fs_msg.specs.Readable.{is_readable}
use Rattle.fs_msg.specs.declared.answer.Answer.{Answer}
use Rattle.fs_msg.specs.declared.client_msg.ClientMsg.{ClientMsg}
use Rattle.fs_msg.specs.declared.item.Item.{Item}
use Rattle.fs_msg.specs.declared.msg.Msg.{Msg}
use Rattle.fs_msg.specs.declared.msg.Msg.TheVariants as msg
use Rattle.fs_actor.specs.Actor.{is_full_up, post_after}
use Rattle.fs_serial.specs.Cluster.{is_with, without_first}
use Rattle.fs_world.specs.Linked.{AreTied, FitsUp, between, downs_of, post_of, state_post, ups_of}
use Rattle.fs_world.specs.Packets.{Packets, with_sent}
use Rattle.fs_world.specs.Served.{SessionStates, first_session_state, up_after, without_each}
use Rattle.fs_world.specs.declared.servers.session_state.SessionState.{SessionState}
use Rattle.fs_world.specs.declared.servers.world.Served.{Served}
use Rattle.fs_world.proofs.LinkedChange.{Changes, IsHeard, apart, tied_accepted, tied_due, tied_joined, tied_pushed}
use Rattle.fs_world.proofs.LinkedLists.{behind, first_gone, no_more, one_more, others_there}
use Rattle.fs_world.proofs.LinkedPair.{rest_of}
use Rattle.fs_world.proofs.NamedClients.{SendsFine}

-- ## Who is who

pub session_is : (t s : Session) → same_peer (Client t) (Client s) ≡ true → t ≡ s
session_is t s e = ap (λ (n : ℕ). session_of n) (nat_cmp-IsAntisymmetric t.0 s.0 (equal_is (nat_cmp t.0 s.0) e))
  where
    session_of : ℕ → Session
    session_of n = record { 0 = n }

-- two servers are different by their numbers
pub number_apart : (j k : ℕ) → same_peer (Server j) (Server k) ≡ false → (j == k) ≡ false
number_apart j k e = either (j == k) refl
  where
    either : (b : Bool) → (j == k) ≡ b → (j == k) ≡ false
    either true q = absurd (apart (Server j) (Server k) e (ap (λ (n : ℕ). Server n) (eqb-true j k q)))
    either false q = q

pub turned_apart : (j k : ℕ) → same_peer (Server j) (Server k) ≡ false → (k == j) ≡ false
turned_apart j k e = either (k == j) refl
  where
    either : (b : Bool) → (k == j) ≡ b → (k == j) ≡ false
    either true q = absurd (apart (Server j) (Server k) e (ap (λ (n : ℕ). Server n) (sym (eqb-true k j q))))
    either false q = q

-- ## What is put at a session

pub got_here : (sessions : SessionStates) (s : Session) (state : SessionState) → get (insert sessions s.0 state) s.0 ≡ Some state
got_here sessions s state =
    get-insert nat_cmp_total sessions s.0 state s.0 ∙ ap (λ (b : Bool). cond b (Some state) (get sessions s.0)) (tied_self (Client s))

pub got_there : (sessions : SessionStates) (s t : Session) (state : SessionState) → same_peer (Client t) (Client s) ≡ false
    → get (insert sessions s.0 state) t.0 ≡ get sessions t.0
got_there sessions s t state e =
    get-insert nat_cmp_total sessions s.0 state t.0 ∙ ap (λ (b : Bool). cond b (Some state) (get sessions t.0)) e

-- a state that is put where it was
pub put_same : (sessions : SessionStates) (s : Session) (state : SessionState) → get sessions s.0 ≡ Some state
    → insert sessions s.0 state ≡ sessions
put_same sessions s state h = same_map nat_cmp_total nat_cmp-IsAntisymmetric (insert sessions s.0 state) sessions at
  where
    at : (q : ℕ) → get (insert sessions s.0 state) q ≡ get sessions q
    at q = get-insert nat_cmp_total sessions s.0 state q ∙ either (eq_by_cmp nat_cmp q s.0) refl
      where
        either : (b : Bool) → eq_by_cmp nat_cmp q s.0 ≡ b → cond b (Some state) (get sessions q) ≡ get sessions q
        either true e = sym h ∙ ap (λ n. get sessions n) (sym (nat_cmp-IsAntisymmetric q s.0 (equal_is (nat_cmp q s.0) e)))
        either false e = refl

-- of two states that are put at one place the second stands there
pub put_again : (sessions : SessionStates) (s : Session) (first second : SessionState)
    → insert (insert sessions s.0 first) s.0 second ≡ insert sessions s.0 second
put_again sessions s first second =
    same_map nat_cmp_total nat_cmp-IsAntisymmetric (insert (insert sessions s.0 first) s.0 second) (insert sessions s.0 second) (λ (q : ℕ).
    get-insert nat_cmp_total (insert sessions s.0 first) s.0 second q
    ∙ ap (λ (o : Option SessionState). cond (eq_by_cmp nat_cmp q s.0) (Some second) o) (get-insert nat_cmp_total sessions s.0 first q)
    ∙ either (eq_by_cmp nat_cmp q s.0) (get sessions q)
    ∙ sym (get-insert nat_cmp_total sessions s.0 second q))
  where
    either : (b : Bool) (o : Option SessionState) → cond b (Some second) (cond b (Some first) o) ≡ cond b (Some second) o
    either true o = refl
    either false o = refl

-- what is the same of two states is the same wherever one looks
pub unseen : {X : Type 0} (f : Option SessionState → X) (sessions : SessionStates) (s : ℕ) (old new : SessionState)
    → f (Some new) ≡ f (Some old) → (t : ℕ) → f (get (insert sessions s new) t) ≡ f (get (insert sessions s old) t)
unseen f sessions s old new e t =
    ap f (get-insert nat_cmp_total sessions s new t) ∙ either (eq_by_cmp nat_cmp t s)
    ∙ sym (ap f (get-insert nat_cmp_total sessions s old t))
  where
    either : (b : Bool) → f (cond b (Some new) (get sessions t)) ≡ f (cond b (Some old) (get sessions t))
    either true = e
    either false = refl

-- what holds of this session's state now, and held of all others', holds of each
abbrev pub AtAll : (Session → SessionState → Type 0) → SessionStates → Type 0
AtAll P sessions = (s : Session) (state : SessionState) → get sessions s.0 ≡ Some state → P s state

pub all_put : (P : Session → SessionState → Type 0) (sessions : SessionStates) (s : Session) (state : SessionState) → P s state
    → AtAll P sessions → AtAll P (insert sessions s.0 state)
all_put P sessions s state here others t new e = either (same_peer (Client t) (Client s)) refl
  where
    either : (b : Bool) → same_peer (Client t) (Client s) ≡ b → P t new
    either true q =
        let is = session_is t s q in
        let same : state ≡ new =
        some_is state new (sym (got_here sessions s state) ∙ ap (λ (x : Session). get (insert sessions s.0 state) x.0) (sym is) ∙ e) in
        subst (λ (x : Session). P x new) (sym is) (subst (λ (x : SessionState). P s x) same here)
    either false q = others t new (sym (got_there sessions s t state q) ∙ e)

-- ## The world where a state is put

abbrev pub with_state : Session → SessionState → List Item → Packets → Served → Served
with_state s state journal packets w = record w { sessions = insert w.sessions s.0 state; journal = journal; packets = packets }

module _ (w : Served) (s : Session) (old new : SessionState) (journal journal' : List Item) (packets packets' : Packets) where
  abbrev before : Served
  before = with_state s old journal packets w

  abbrev after : Served
  after = with_state s new journal' packets' w

  session_changes : (more : List Sent) → packets'.sent ≡ packets.sent ++ more → Changes (Client s) new.post before after more
  session_changes more e = record { here = ap state_post (got_here w.sessions s new); there = there; ways = ways; packets = e }
    where
      there : (b : Peer) → same_peer b (Client s) ≡ false → post_of after b ≡ post_of before b
      there (Client t) f = ap state_post (got_there w.sessions s t new f ∙ sym (got_there w.sessions s t old f))
      there (Server k) f = refl

      ways : (b c : Peer) → same_peer b (Client s) ≡ false → same_peer c (Client s) ≡ false → between after b c ≡ between before b c
      ways (Client t) (Server k) f g = ap (ups_of k) (got_there w.sessions s t new f ∙ sym (got_there w.sessions s t old f))
      ways (Server k) (Client t) f g = ap (downs_of k) (got_there w.sessions s t new g ∙ sym (got_there w.sessions s t old g))
      ways (Server j) (Server k) f g = refl
      ways (Client t) (Client u) f g = refl

  -- the same messages are on their way
  same_ways : new.up ≡ old.up → new.down ≡ old.down → (b c : Peer) → between after b c ≡ between before b c
  same_ways up down (Client t) (Server k) = unseen (ups_of k) w.sessions s.0 old new
      (ap (λ (ms : List (ℕ × ClientMsg)). map (λ (m : ℕ × ClientMsg). msg.Client m.1) (filter (is_with k) ms)) up) t.0
  same_ways up down (Server k) (Client t) = unseen (downs_of k) w.sessions s.0 old new
      (ap (λ (ms : List (ℕ × Answer)). map (λ (m : ℕ × Answer). msg.Answer m.1) (filter (is_with k) ms)) down) t.0
  same_ways up down (Server j) (Server k) = refl
  same_ways up down (Client t) (Client u) = refl

  -- what is due goes out
  pub session_due : (turn : Bool) (heard : Option Peer) → new.post ≡ (post_due old.post turn heard).links
      → packets' ≡ with_sent (post_due old.post turn heard).sent packets → new.up ≡ old.up → new.down ≡ old.down
      → IsHeard before (Client s) heard → AreTied before → AreTied after
  session_due turn heard post sent up down of h =
      tied_due (Client s) old.post turn heard before after (ap state_post (got_here w.sessions s old)) of
      (subst (λ (p : Links). Changes (Client s) p before after (post_due old.post turn heard).sent) post
      (session_changes (post_due old.post turn heard).sent (ap (λ (p : Packets). p.sent) sent)))
      (same_ways up down) h

-- ## A session sends

module _ (w : Served) (s : Session) (state : SessionState) (journal : List Item) (packets : Packets) where
  abbrev sending : Option (ℕ × ClientMsg) → Served
  sending send = with_state s (record state { post = post_after send state.post; up = up_after send state.up }) journal packets w

  one_sent : (m : ℕ × ClientMsg) (q : Links) → slice_get w.posts m.0 ≡ Some q → is_readable (msg.Client m.1) ≡ true → FitsUp (Some m)
      → is_full_up (Some m) state.post ≡ false → AreTied (with_state s state journal packets w) → AreTied (sending (Some m))
  one_sent m q there readable fits room h =
      let new : SessionState = record state { post = post_after (Some m) state.post; up = up_after (Some m) state.up } in
      let free = leb-false _ _ room in
      tied_pushed (Client s) (Server m.0) state.post q (msg.Client m.1) (with_state s state journal packets w) (sending (Some m))
      (ap state_post (got_here w.sessions s state)) there refl
      (fits.fits readable) fits.short (omega (arith, free)) (session_changes w s state new journal journal packets packets []
      (sym (append-nil packets.sent)))
      out back others h
    where
      f : ℕ × ClientMsg → Msg
      f x = msg.Client x.1

      later : SessionState
      later = record state { post = post_after (Some m) state.post; up = state.up ++ m ∷ [] }

      out : ups_of m.0 (get (insert w.sessions s.0 later) s.0) ≡ ups_of m.0 (get (insert w.sessions s.0 state) s.0) ++ msg.Client m.1 ∷ []
      out = ap (ups_of m.0) (got_here w.sessions s later) ∙ one_more f (is_with m.0) state.up m (itself m.0)
          ∙ ap (λ (o : Option SessionState). ups_of m.0 o ++ msg.Client m.1 ∷ []) (sym (got_here w.sessions s state))

      back : downs_of m.0 (get (insert w.sessions s.0 later) s.0) ≡ downs_of m.0 (get (insert w.sessions s.0 state) s.0)
      back = unseen (downs_of m.0) w.sessions s.0 state later refl s.0

      others : (c : Peer) → same_peer c (Server m.0) ≡ false
          → (between (sending (Some m)) (Client s) c ≡ between (with_state s state journal packets w) (Client s) c) × (between
          (sending (Some m)) c (Client s) ≡ between (with_state s state journal packets w) c (Client s))
      others (Client t) e = (refl, refl)
      others (Server k) e = (
        unseen (ups_of k) w.sessions s.0 state later
            (ap (λ (ms : List (ℕ × ClientMsg)). map f ms) (no_more (is_with k) state.up m (turned_apart k m.0 e))) s.0,
        unseen (downs_of k) w.sessions s.0 state later refl s.0,
      )

  pub session_sends : (servers : ℕ) (send : Option (ℕ × ClientMsg))
      → ((k : ℕ) → k < servers → (q : Links) × (slice_get w.posts k ≡ Some q)) → SendsFine servers send → FitsUp send
      → is_full_up send state.post ≡ false → AreTied (with_state s state journal packets w) → AreTied (sending send)
  session_sends servers None there fine fits room h = h
  session_sends servers (Some m) there fine fits room h = let q = there m.0 fine.0 in one_sent m q.0 q.1 fine.1 fits room h

-- ## A packet of a server comes to a session

none_left : {Y : Type 0} (joined : List Joined) → rest_of {X = Y} joined [] ≡ []
none_left [] = refl
none_left (j ∷ js) = refl

rest_behind : {X Y : Type 0} (f : X → Y) (j : Joined) (js : List Joined) (xs : List X)
    → rest_of js (map f (behind xs)) ≡ rest_of (j ∷ js) (map f xs)
rest_behind f j js [] = none_left js
rest_behind f j js (x ∷ xs) = refl

pub rest_taken : {X Y : Type 0} (f : X → Y) (joined : List Joined) (is : X → Bool) (xs : List X)
    → map f (filter is (without_each joined is xs)) ≡ rest_of joined (map f (filter is xs))
rest_taken f [] is xs = refl
rest_taken {X} f (j ∷ js) is xs = rest_taken f js is (without_first is xs) ∙ ap (λ (ys : List X). rest_of js (map f ys)) (first_gone is xs)
    ∙ rest_behind f j js (filter is xs)

pub others_taken : {X : Type 0} (joined : List Joined) (is other : X → Bool) (xs : List X) → ((x : X) → is x ≡ true → other x ≡ false)
    → filter other (without_each joined is xs) ≡ filter other xs
others_taken [] is other xs g = refl
others_taken (j ∷ js) is other xs g = others_taken js is other (without_first is xs) g ∙ others_there is other xs g

-- a message with this server is none with another
pub with_other : {X : Type 0} (j k : ℕ) (m : ℕ × X) → same_peer (Server j) (Server k) ≡ false → is_with k m ≡ true → is_with j m ≡ false
with_other j k m e q = ap (λ (n : ℕ). n == j) (eqb-true m.0 k q) ∙ turned_apart j k e

module _ (w : Served) (s : Session) (state : SessionState) (k : ℕ) (post : Links) (p : Packet) (journal : List Item)
    (packets : Packets) where
  abbrev accepting : Served
  accepting = with_state s (record state {
    post = (post_accepted state.post (Server k) p).links;
    down =
        without_each (post_accepted state.post (Server k) p).heard.joined (is_with k) state.down;
  }) journal packets w

  pub session_accepts : slice_get w.posts k ≡ Some post
      → IsPacketOf (link_with post (Client s)).window (link_with state.post (Server k)).window p
      → AreTied (with_state s state journal packets w) → AreTied accepting
  session_accepts there of h =
      tied_accepted (Client s) (Server k) state.post post p (with_state s state journal packets w) accepting
      (ap state_post (got_here w.sessions s state)) there refl of
      (session_changes w s state later journal journal packets packets [] (sym (append-nil packets.sent)))
      (unseen (ups_of k) w.sessions s.0 state later refl s.0) back others h
    where
      joined : List Joined
      joined = (post_accepted state.post (Server k) p).heard.joined

      f : ℕ × Answer → Msg
      f x = msg.Answer x.1

      later : SessionState
      later = record state { post = (post_accepted state.post (Server k) p).links; down = without_each joined (is_with k) state.down }

      back : downs_of k (get (insert w.sessions s.0 later) s.0) ≡ rest_of joined (downs_of k (get (insert w.sessions s.0 state) s.0))
      back = ap (downs_of k) (got_here w.sessions s later) ∙ rest_taken f joined (is_with k) state.down
          ∙ ap (λ (o : Option SessionState). rest_of joined (downs_of k o)) (sym (got_here w.sessions s state))

      others : (c : Peer) → same_peer c (Server k) ≡ false
          → (between accepting (Client s) c ≡ between (with_state s state journal packets w) (Client s) c) × (between accepting c
          (Client s) ≡ between (with_state s state journal packets w) c (Client s))
      others (Client t) e = (refl, refl)
      others (Server j) e = (
        unseen (ups_of j) w.sessions s.0 state later refl s.0,
        unseen (downs_of j) w.sessions s.0 state later
            (ap (λ (ms : List (ℕ × Answer)). map f ms)
            (others_taken joined (is_with k) (is_with j) state.down (λ m q. with_other j k m e q))) s.0,
      )

-- ## A session joins

pub session_joins : (w : Served) (s : Session) (term : ℕ) → get w.sessions s.0 ≡ None → AreTied w
    → AreTied (record w { sessions = insert w.sessions s.0 (first_session_state term s) })
session_joins w s term none h = tied_joined (Client s) w now (ap state_post none) (record {
  here =
      ap state_post (got_here w.sessions s state);
  there = there;
  ways = ways;
  packets = sym (append-nil w.packets.sent);
}) empty h
  where
    state : SessionState
    state = first_session_state term s

    now : Served
    now = record w { sessions = insert w.sessions s.0 state }

    there : (b : Peer) → same_peer b (Client s) ≡ false → post_of now b ≡ post_of w b
    there (Client t) f = ap state_post (got_there w.sessions s t state f)
    there (Server k) f = refl

    ways : (b c : Peer) → same_peer b (Client s) ≡ false → same_peer c (Client s) ≡ false → between now b c ≡ between w b c
    ways (Client t) (Server k) f g = ap (ups_of k) (got_there w.sessions s t state f)
    ways (Server k) (Client t) f g = ap (downs_of k) (got_there w.sessions s t state g)
    ways (Server j) (Server k) f g = refl
    ways (Client t) (Client u) f g = refl

    empty : (b : Peer) → (between now (Client s) b ≡ []) × (between now b (Client s) ≡ [])
    empty (Client t) = (refl, refl)
    empty (Server k) = (ap (ups_of k) (got_here w.sessions s state), ap (downs_of k) (got_here w.sessions s state))
