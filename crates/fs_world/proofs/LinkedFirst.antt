-- What holds of the links holds of the first world, and of one where a session joins or a packet was told.
use Rattle.std.proofs.Common.{◌≡◌, ◌∙◌, ◌<◌, ◌≤◌, ℕ, zero, suc, true, List, [], ◌∷◌, length, Option, Some, None, refl, sym, ap, subst, inl}
use Rattle.std.proofs.Common.{inr, arith, length-append}
use Rattle.std.specs.Prelude.{slice_get}
use Rattle.std.specs.FinMap.{empty, get, get-empty, insert}
use Rattle.std.specs.Ordering.{nat_cmp}
use Rattle.fs_ident.specs.declared.actor.Peer.{Peer}
use Rattle.fs_ident.specs.declared.actor.Peer.TheVariants.{Server, Client}
use Rattle.fs_ident.specs.declared.actor.Session.{Session}
use Rattle.fs_ident.specs.declared.limits.TheConstants.{SESSIONS}
use Rattle.fs_window.specs.Post.{Links, link_with, new_link, no_links}
use Rattle.fs_wire.specs.Readable.{is_readable_session}
use Rattle.fs_msg.specs.declared.limits.TheConstants.{SERVERS}
use Rattle.fs_msg.specs.declared.msg.Msg.{Msg}
use Rattle.fs_serial.specs.Cluster.{first_servers}
use Rattle.fs_serial.specs.declared.in_flight.InFlight.{InFlight}
use Rattle.fs_server.specs.Server.{first_server}
use Rattle.fs_server.specs.declared.state.Server.{Server as Core}
use Rattle.fs_world.specs.Linked.{AreTied, Brings, HasJoined, IsCarried, IsLinked, IsPair, IsPost, IsSoundState, IsServed, between}
use Rattle.fs_world.specs.Linked.{downs_of, post_of, state_post, ups_of}
use Rattle.fs_world.specs.Packets.{with_delivered}
use Rattle.fs_world.specs.Served.{SessionStates, first_posts, first_session_state, first_served, join_at, link_width}
use Rattle.fs_world.specs.declared.servers.session_state.SessionState.{SessionState}
use Rattle.fs_world.specs.declared.servers.world.Served.{Served}
use Rattle.fs_world.proofs.LinkedChange.{none_there, tied_alike}
use Rattle.fs_world.proofs.LinkedLists.{one_more_there, one_there}
use Rattle.fs_world.proofs.LinkedPair.{both_new}
use Rattle.fs_world.proofs.LinkedStates.{AtAll, all_put, session_joins}
use Rattle.fs_world.proofs.NamedClients.{first_fine}
pub use Rattle.fs_world.proofs.NamedClients.{answer_silent}
use Rattle.fs_world.proofs.NamedServers.{first_served_core, in_range}
use Rattle.fs_world.proofs.Seen.{joined_still}
use Rattle.fs_world.proofs.StayingServers.{first_count}
use Rattle.fs_msg.specs.declared.peer_msg.PeerMsg.{PeerMsg}
use Rattle.fs_msg.specs.declared.peer_msg.PeerMsg.TheVariants.{Parcel as OfParcel, Prepare}

-- ## Whoever has joined stays

pub served_then : (servers : ℕ) (a b : SessionStates) (k : ℕ) (s : Core) → ((t : Session) → HasJoined a t → HasJoined b t)
    → IsServed servers a k s → IsServed servers b k s
served_then servers a b k s g h = record {
  me = h.me;
  peers = h.peers;
  named = h.named;
  records = h.records;
  handles = h.handles;
  rows = λ row i. g row.session (h.rows row i);
  leading = λ l i. let own = h.leading l i in record { session = g l.leader.session own.session; at = own.at; votes = own.votes };
  ending = λ x i. let own = h.ending x i in record { session = g x.session own.session; end = own.end };
}

brings_then : (servers : ℕ) (a b : SessionStates) (m : PeerMsg) → ((t : Session) → HasJoined a t → HasJoined b t) → Brings servers a m
    → Brings servers b m
brings_then servers a b (OfParcel p) g h = record { each = h.each; handles = h.handles; rows = λ row i. g row.session (h.rows row i) }
brings_then servers a b (Prepare m) g h = g m.session h
brings_then servers a b m g h = h

pub carried_then : (servers : ℕ) (a b : SessionStates) (f : InFlight) → ((t : Session) → HasJoined a t → HasJoined b t)
    → IsCarried servers a f → IsCarried servers b f
carried_then servers a b f g h = record { from = h.from; to = h.to; apart = h.apart; brings = brings_then servers a b f.message g h.brings }

abbrev pub AllSoundStates : ℕ → SessionStates → Type 0
AllSoundStates servers sessions = AtAll (IsSoundState servers) sessions

pub readable_in : (servers : ℕ) (sessions : SessionStates) → AllSoundStates servers sessions → (s : Session) → HasJoined sessions s
    → is_readable_session s ≡ true
readable_in servers sessions h s j = (h s j.0 j.1).number

-- the links of each server that there is
pub posts_there : (w : Served) → IsLinked w → (k : ℕ) → k < length w.servers → (q : Links) × (slice_get w.posts k ≡ Some q)
posts_there w h k few = one_there w.posts k (subst (λ (n : ℕ). k < n) (sym h.posts) few)

-- ## The first world

posts_length : (n : ℕ) → length (first_posts n) ≡ n
posts_length zero = refl
posts_length (suc n) = length-append (first_posts n) (no_links (Server n) link_width ∷ []) ∙ omega (arith, posts_length n)

first_post : (n k : ℕ) (post : Links) → slice_get (first_posts n) k ≡ Some post → post ≡ no_links (Server k) link_width
first_post zero k post h = absurd (cc)
first_post (suc n) k post h = elim (one_more_there (first_posts n) (no_links (Server n) link_width) k post h) [
  | inl e ↦ first_post n k post e
  | inr q ↦ sym q.1 ∙ ap (λ (j : ℕ). no_links (Server j) link_width) (sym (q.0 ∙ posts_length n))
]

first_core : (n k skew term : ℕ) (s : Core) → slice_get (first_servers n skew term) k ≡ Some s → s ≡ first_server k skew term
first_core zero k skew term s h = absurd (cc)
first_core (suc n) k skew term s h = elim (one_more_there (first_servers n skew term) (first_server n skew term) k s h) [
  | inl e ↦ first_core n k skew term s e
  | inr q ↦ sym q.1 ∙ ap (λ (j : ℕ). first_server j skew term) (sym (q.0 ∙ first_count n skew term))
]

first_peer : (n skew term : ℕ) (a : Peer) (post : Links) → post_of (first_served n skew term) a ≡ Some post → post ≡ no_links a link_width
first_peer n skew term (Server k) post e = first_post n k post e
first_peer n skew term (Client s) post e = absurd (none_there post (sym e ∙ ap state_post (get-empty nat_cmp s.0)))

first_between : (n skew term : ℕ) (a b : Peer) → between (first_served n skew term) a b ≡ []
first_between n skew term (Client s) (Server k) = ap (ups_of k) (get-empty nat_cmp s.0)
first_between n skew term (Server k) (Client s) = ap (downs_of k) (get-empty nat_cmp s.0)
first_between n skew term (Server j) (Server k) = refl
first_between n skew term (Client s) (Client t) = refl

first_tied : (n skew term : ℕ) → AreTied (first_served n skew term)
first_tied n skew term = record {
  posts = λ a post e. subst (λ (p : Links). IsPost a p) (sym (first_peer n skew term a post e)) (record {
    me = refl;
    width = refl;
    links =
        record { wide = omega arith; narrow = omega arith; ordered = refl };
    own = refl;
  });
  pairs = λ a b p q f e g.
      subst (λ (x : Links). IsPair a b (link_with x b) (link_with q a) (between (first_served n skew term) a b) [])
      (sym (first_peer n skew term a p e))
      (subst (λ (x : Links). IsPair a b (new_link link_width) (link_with x a) (between (first_served n skew term) a b) [])
      (sym (first_peer n skew term b q g))
      (subst (λ (ms : List Msg). IsPair a b (new_link link_width) (new_link link_width) ms []) (sym (first_between n skew term a b))
      (both_new a b [] (λ x i e f. absurd i) (λ x i e f. absurd i)).going));
  alone = λ a b p e g. ap (λ (x : Links). link_with x b) (first_peer n skew term a p e);
  between = λ x i. absurd i;
}

no_state : (state : SessionState) → ◌≡◌ {A = Option SessionState} (Some state) None → ⊥
no_state state e = absurd (cc)

pub first_linked : (n skew term : ℕ) → 1 ≤ n → n ≤ SERVERS → IsLinked (first_served n skew term)
first_linked n skew term some few =
    let len = first_count n skew term in
    record {
      posts = posts_length n ∙ sym len;
      some = omega (arith, len);
      few = omega (arith, len);
      ties = first_tied n skew term;
      servers = λ k s e. subst (λ (m : ℕ). IsServed m empty k s) (sym len)
          (subst (λ (x : Core). IsServed n empty k x) (sym (first_core n k skew term s e))
          (first_served_core n empty k skew term (omega arith)));
      sessions = λ s state e. absurd (no_state state (sym e ∙ get-empty nat_cmp s.0));
      in_flight = λ f i. absurd i;
    }

-- ## A session joins

first_state_sound : (servers : ℕ) (s : Session) (term : ℕ) → 0 < servers → is_readable_session s ≡ true
    → IsSoundState servers s (first_session_state term s)
first_state_sound servers s term some readable =
    let c = first_fine servers s term some in
    record { number = readable; session = refl; log = c.log; hints = c.hints; up = λ m i. absurd i; down = λ m i. absurd i }

joins : (w : Served) (s : Session) (o : Option SessionState) → get w.sessions s.0 ≡ o → is_readable_session s ≡ true → IsLinked w
    → IsLinked (join_at o s w).world
joins w s None e readable h =
    let state = first_session_state w.term s in
    let n = length w.servers in
    record {
      posts = h.posts;
      some = h.some;
      few = h.few;
      ties = session_joins w s w.term e h.ties;
      servers =
          λ k c i. served_then n w.sessions (insert w.sessions s.0 state) k c (λ t g. joined_still w.sessions s t state g)
          (h.servers k c i);
      sessions =
          all_put (IsSoundState n) w.sessions s state (first_state_sound n s w.term (let some = h.some in omega arith) readable) h.sessions;
      in_flight =
          λ f i. carried_then n w.sessions (insert w.sessions s.0 state) f (λ t g. joined_still w.sessions s t state g) (h.in_flight f i);
    }
joins w s (Some state) e readable h = h

pub join_linked : (w : Served) (s : Session) → 1 ≤ s.0 → s.0 ≤ SESSIONS → IsLinked w → IsLinked (join_at (get w.sessions s.0) s w).world
join_linked w s some few h = joins w s (get w.sessions s.0) refl (in_range s.0 1 SESSIONS some few) h

-- ## A mark at a packet

pub mark_linked : (w : Served) (j : ℕ) → IsLinked w → IsLinked (record w { packets = with_delivered j w.packets })
mark_linked w j h = record {
  posts = h.posts;
  some = h.some;
  few = h.few;
  ties = tied_alike w (record w { packets = with_delivered j w.packets }) refl refl refl refl h.ties;
  servers = h.servers;
  sessions = h.sessions;
  in_flight = h.in_flight;
}
