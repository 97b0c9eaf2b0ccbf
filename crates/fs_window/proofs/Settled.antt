-- Links over which nothing goes for the first time.
use Rattle.std.proofs.Common.{◌≡◌, ℕ, zero, suc, ◌+◌, ◌-◌, ◌<◌, min, Bool, true, false, not, List, [], ◌∷◌, ◌++◌, length, map, drop, get_or, set, Option, Some, refl, sym, ap, subst, ◌∙◌, arith}
use Rattle.std.specs.Prelude.{slice_get}
use Rattle.std.specs.Ordering.{is_eq, ordering_reverse}
use Rattle.std.specs.FinMap.Entries.{put}
use Rattle.std.proofs.lemmas.List.{length-take, length-drop, length-set, nil_from_length}
use Rattle.fs_ident.specs.declared.actor.Peer.{Peer}
use Rattle.fs_ident.proofs.Booleans.{first, second}
use Rattle.fs_ident.proofs.Standing.{In-got}
use Rattle.fs_window.specs.declared.link.Link.{Link}
use Rattle.fs_window.specs.LinkEnd.{LinkEnd, unsent, after_due, packets_from, or_alone}
use Rattle.fs_window.specs.Peers.{peer_cmp, same_peer, ByPeer, are_peers_in_order, IsPlaceOf}
use Rattle.fs_window.specs.Post.{link_sent, is_peer, packet_sent, sent_on}
use Rattle.fs_window.specs.declared.touched.Touched.{Touched}
use Rattle.fs_window.specs.Touched.{IsSettled, RestIs, OthersAreSettled, with_place, has_place}
use Rattle.fs_window.proofs.Actors.{below_in}
use Rattle.fs_window.proofs.Between.{rest_with, rest_given}
use Rattle.fs_window.proofs.PeerOrder.{peer_total}

-- ---- one link

-- once all that is due was sent, nothing goes for the first time
pub nothing_left : (l : LinkEnd) → unsent (after_due l) ≡ []
nothing_left l =
    nil_from_length (unsent (after_due l))
    (omega (
      arith,
      length-take (l.acked + l.width - (l.sent + length (unsent l))) (drop (l.sent + length (unsent l) - l.acked) (after_due l).waiting),
      length-drop (l.sent + length (unsent l) - l.acked) (after_due l).waiting,
      length-drop (min l.acked (l.sent + length (unsent l)) - min l.acked l.sent) l.waiting,
      length-take (l.acked + l.width - l.sent) (drop (l.sent - l.acked) l.waiting),
      length-drop (l.sent - l.acked) l.waiting,
    ))

-- where nothing goes for the first time, nothing is counted
pub settled_stays : (e : Peer × Link) → IsSettled e → (e.0, link_sent e.1) ≡ e
settled_stays e h =
    let none : min e.1.window.acked e.1.window.sent - min e.1.window.acked e.1.window.sent ≡ 0 = omega arith in
    ap (λ (n : ℕ). with_sent n (min e.1.window.acked n - min e.1.window.acked e.1.window.sent)) count ∙ ap (λ (n : ℕ). with_sent e.1.window.sent n) none
  where
    with_sent : ℕ → ℕ → Peer × Link
    with_sent n k = (e.0, record { window = record { width = e.1.window.width; acked = e.1.window.acked; sent = n; waiting = drop k e.1.window.waiting; got = e.1.window.got; kept = e.1.window.kept }; joiner = e.1.joiner })

    count : e.1.window.sent + length (unsent e.1.window) ≡ e.1.window.sent
    count = let none : length (unsent e.1.window) ≡ 0 = ap (λ (ss : List (List ℕ)). length ss) h in omega (arith, none)

-- and where its actor was not heard, nothing goes at all
pub settled_silent : (me : Peer) (heard : Option Peer) (e : Peer × Link) → IsSettled e → is_peer e.0 heard ≡ false → sent_on me false heard e ≡ []
settled_silent me heard e h none =
    ap (λ (ss : List (List ℕ)). map (packet_sent me e.0) (or_alone e.1.window.got (is_peer e.0 heard) (packets_from e.1.window.got e.1.window.sent ss ++ []))) h
    ∙ ap (λ (b : Bool). map (packet_sent me e.0) (or_alone e.1.window.got b [])) none

-- ---- all links of an actor

get_mapped : {X : Type 0} (g : X → X) (xs : List X) (i : ℕ) (y : X) → slice_get (map g xs) i ≡ Some y → (x : X) × (y ≡ g x)
get_mapped g [] i y e = absurd (cc e)
get_mapped g (x ∷ xs) zero y e = (x, cc e)
get_mapped g (x ∷ xs) (suc i) y e = get_mapped g xs i y e

-- once all that is due was sent on each
pub all_settled : (es : ByPeer Link) → RestIs IsSettled 0 [] (map (λ e. (e.0, link_sent e.1)) es)
all_settled es = λ i x le e.
    let from = get_mapped (λ (y : Peer × Link). (y.0, link_sent y.1)) es i x e in
    ap (λ (y : Peer × Link). unsent y.1.window) from.1 ∙ nothing_left from.0.1.window

-- two entries are of two actors
other_place : (es : ByPeer Link) (i j : ℕ) (d e : Peer × Link) → are_peers_in_order es ≡ true → slice_get es i ≡ Some d → slice_get es j ≡ Some e → (i ≡ j → ⊥) → same_peer d.0 e.0 ≡ false
other_place [] i j d e h p q ne = absurd (cc p)
other_place (x ∷ es) zero zero d e h p q ne = absurd (ne refl)
other_place (x ∷ es) zero (suc j) d e h p q ne =
    let here : d ≡ x = cc p in
    ap (λ (y : Peer × Link). same_peer y.0 e.0) here ∙ ap is_eq (below_in x.0 es e (first _ _ h) (In-got es j e q))
other_place (x ∷ es) (suc i) zero d e h p q ne =
    let here : e ≡ x = cc q in
    ap (λ (y : Peer × Link). same_peer d.0 y.0) here ∙ ap is_eq (peer_total.antisymm d.0 x.0 ∙ ap ordering_reverse (below_in x.0 es d (first _ _ h) (In-got es i d p)))
other_place (x ∷ es) (suc i) (suc j) d e h p q ne = other_place es i j d e (second _ _ h) p q (λ r. ne (ap (λ n. suc n) r))

got_at : {X : Type 0} (xs : List X) (i : ℕ) (d : X) → i < length xs → slice_get xs i ≡ Some (get_or xs i d)
got_at [] i d lt = absurd (omega arith)
got_at (x ∷ xs) zero d lt = refl
got_at (x ∷ xs) (suc i) d lt = got_at xs i d (omega arith)

-- the place of the actor that was heard is one of these, so the others are of other actors
pub others_unheard : (es : ByPeer Link) (places : List ℕ) (peer : Peer) (at : ℕ) → are_peers_in_order es ≡ true → IsPlaceOf es peer at → has_place at places ≡ true
    → (i : ℕ) (e : Peer × Link) → slice_get es i ≡ Some e → has_place i places ≡ false → is_peer e.0 (Some peer) ≡ false
others_unheard es places peer at h place has i e found none =
    let other : i ≡ at → ⊥ = (λ q. let both : true ≡ false = sym has ∙ ap (λ (n : ℕ). has_place n places) (sym q) ∙ none in absurd (cc both)) in
    ap (λ (p : Peer). same_peer e.0 p) (sym (place.key e)) ∙ other_place es i at e (get_or es at e) h found (got_at es at e place.within) other

-- another link at a place
pub set_other : {X : Type 0} (xs : List X) (at : ℕ) (x : X) (i : ℕ) → (i ≡ at → ⊥) → slice_get (set xs at x) i ≡ slice_get xs i
set_other [] at x i ne = refl
set_other (z ∷ xs) zero x zero ne = absurd (ne refl)
set_other (z ∷ xs) zero x (suc i) ne = refl
set_other (z ∷ xs) (suc at) x zero ne = refl
set_other (z ∷ xs) (suc at) x (suc i) ne = set_other xs at x i (λ q. ne (ap (λ n. suc n) q))

-- ---- what is touched

-- one more place
pub settled_here : (links : ByPeer Link) (all : Bool) (places : List ℕ) (at : ℕ) → at < length links → OthersAreSettled (record { all = all; places = places }) links → OthersAreSettled (record { all = all; places = with_place at places }) links
settled_here links all places at lt h = λ none. rest_with IsSettled 0 at places links links refl (λ i ne. refl) (omega arith) lt (h none)

-- and another link there
pub settled_changed : (links : ByPeer Link) (peer : Peer) (at : ℕ) (all : Bool) (places : List ℕ) (l : Link) → IsPlaceOf links peer at → OthersAreSettled (record { all = all; places = places }) links
    → OthersAreSettled (record { all = all; places = with_place at places }) (put peer_cmp peer l links)
settled_changed links peer at all places l place h = λ none.
    subst (λ (es : ByPeer Link). RestIs IsSettled 0 (with_place at places) es) (sym (place.replaced l))
    (rest_with IsSettled 0 at places links (set links at (peer, l)) (length-set links at (peer, l)) (set_other links at (peer, l)) (omega arith) place.within (h none))

-- links that are what was said of them
pub settled_is : (t : Touched) (now said : ByPeer Link) → now ≡ said → OthersAreSettled t said → OthersAreSettled t now
settled_is t now said e h = subst (λ (es : ByPeer Link). OthersAreSettled t es) (sym e) h

-- ---- what goes

-- a link that is not among these is silent
pub rest_silent : (me : Peer) (heard : Option Peer) (places : List ℕ) (links : ByPeer Link) → ((i : ℕ) (e : Peer × Link) → slice_get links i ≡ Some e → has_place i places ≡ false → is_peer e.0 heard ≡ false)
    → RestIs IsSettled 0 places links → RestIs (λ e. sent_on me false heard e ≡ []) 0 places links
rest_silent me heard places links others h = rest_given IsSettled (λ e. sent_on me false heard e ≡ []) 0 places links (λ i e le found none settled. settled_silent me heard e settled (others i e found none)) h

-- the link with the actor that was touched is another
pub settled_put : (t told : Touched) (links here new : ByPeer Link) (peer : Peer) (l : Link) → here ≡ links → ((m : Link) → OthersAreSettled told here → OthersAreSettled t (put peer_cmp peer m here)) → OthersAreSettled told links
    → new ≡ put peer_cmp peer l links → OthersAreSettled t new
settled_put t told links here new peer l e changed h is =
    settled_is t new (put peer_cmp peer l here) (is ∙ ap (λ (es : ByPeer Link). put peer_cmp peer l es) (sym e)) (changed l (settled_is told here links e h))

pub affirmed : (b : Bool) → not b ≡ false → b ≡ true
affirmed true e = refl
affirmed false e = absurd (cc e)
