-- The link with each actor, once one of them or all have changed, and what goes to each.
use Rattle.std.proofs.Common.{◌≡◌, ℕ, ◌+◌, ◌-◌, min, Bool, true, false, cond, List, [], ◌∷◌, ◌++◌, length, map, flat_map, drop, Option, Some, None, unwrap_or, option_map, refl, sym, ap, subst, ◌∙◌, inl, inr, arith, Less}
use Rattle.std.specs.Cmp.{eq_by_cmp_equiv}
use Rattle.std.specs.Ordering.{is_eq, ordering_reverse}
use Rattle.std.specs.FinMap.Entries.{find, below_all, find-put}
use Rattle.std.proofs.lemmas.List.{length-take, length-drop}
use Rattle.std.proofs.lemmas.List.Concat.{flat_map-cons}
use Rattle.fs_ident.specs.In.{In}
use Rattle.fs_ident.specs.declared.actor.Peer.{Peer}
use Rattle.fs_ident.proofs.Booleans.{first, second, less}
use Rattle.fs_ident.proofs.Standing.{In-map}
use Rattle.fs_window.specs.declared.link.Link.{Link}
use Rattle.fs_window.specs.declared.packet.Packet.{Packet}
use Rattle.fs_window.specs.declared.sent.Sent.{Sent}
use Rattle.fs_window.specs.LinkEnd.{LinkEnd, new_link_end, unsent, after_due, due_of}
use Rattle.fs_window.specs.Peers.{peer_cmp, same_peer, ByPeer, are_peers_in_order}
use Rattle.fs_window.specs.Post.{Links, new_link, link_sent, link_with, with_link, links_sent, is_peer, packet_sent, sent_on, post_due, WasSent}
use Rattle.fs_window.proofs.PeerOrder.{peer_total}

unwrapped : (b : Bool) (l new : Link) (o : Option Link) → unwrap_or (cond b (Some l) o) new ≡ cond b l (unwrap_or o new)
unwrapped true l new o = refl
unwrapped false l new o = refl

-- this link with the actor, and the others as they were
pub link_of_actor : (s : Links) (peer other : Peer) (l : Link) → link_with (with_link s peer l) other ≡ cond (same_peer other peer) l (link_with s other)
link_of_actor s peer other l =
    ap (λ (o : Option Link). unwrap_or o (new_link s.width)) (find-put peer_cmp peer_total other peer l s.ends)
    ∙ unwrapped (same_peer other peer) l (new_link s.width) (find peer_cmp other s.ends)

-- a new end has sent nothing
nothing_unsent : (width : ℕ) → length (unsent (new_link_end width)) ≡ 0
nothing_unsent width = omega (arith, length-take (0 + width - 0) (drop {A = List ℕ} (0 - 0) []), length-drop {A = List ℕ} (0 - 0) [])

new_sent : (width : ℕ) → after_due (new_link_end width) ≡ new_link_end width
new_sent width = ap (λ (n : ℕ). sent_so n) (nothing_unsent width)
  where
    sent_so : ℕ → LinkEnd
    sent_so n = record { width = width; acked = 0; sent = 0 + n; waiting = drop {A = List ℕ} (min 0 (0 + n) - min 0 0) []; got = 0; kept = [] }

find_changed : (f : Link → Link) (es : ByPeer Link) (peer : Peer) → find peer_cmp peer (map (λ e. (e.0, f e.1)) es) ≡ option_map f (find peer_cmp peer es)
find_changed f [] peer = refl
find_changed f (e ∷ es) peer = go (same_peer peer e.0) (find_changed f es peer)
  where
    go : (b : Bool) → find peer_cmp peer (map (λ x. (x.0, f x.1)) es) ≡ option_map f (find peer_cmp peer es)
        → cond b (Some (f e.1)) (find peer_cmp peer (map (λ x. (x.0, f x.1)) es)) ≡ option_map f (cond b (Some e.1) (find peer_cmp peer es))
    go true h = refl
    go false h = h

-- every link was sent
pub links_of_actors : (s : Links) (peer : Peer) → link_with (links_sent s) peer ≡ link_sent (link_with s peer)
links_of_actors s peer =
    ap (λ (o : Option Link). unwrap_or o (new_link s.width)) (find_changed link_sent s.ends peer) ∙ go (find peer_cmp peer s.ends)
  where
    go : (o : Option Link) → unwrap_or (option_map link_sent o) (new_link s.width) ≡ link_sent (unwrap_or o (new_link s.width))
    go None = ap (λ (w : LinkEnd). record { window = w; joiner = [] }) (sym (new_sent s.width))
    go (Some l) = refl

in_flat_map : {X Y : Type 0} (f : X → List Y) (y : Y) (xs : List X) → In y (flat_map f xs) → (x : X) × (In x xs × In y (f x))
in_flat_map {X} {Y} f y [] i = absurd i
in_flat_map {X} {Y} f y (x ∷ xs) i =
    parted (f x) (λ j. j) (λ j. in_flat_map f y xs j) (subst (λ (ys : List Y). In y ys) (flat_map-cons f x xs) i)
  where
    parted : (ys : List Y) → (In y ys → In y (f x)) → (In y (flat_map f xs) → (z : X) × (In z xs × In y (f z))) → In y (ys ++ flat_map f xs) → (z : X) × (In z (x ∷ xs) × In y (f z))
    parted [] g h j = let r = h j in (r.0, (inr r.1.0, r.1.1))
    parted (w ∷ ws) g h j = elim j [
      | inl e ↦ (x, (inl refl, g (inl e)))
      | inr k ↦ parted ws (λ m. g (inr m)) h k
    ]

pub below_in : (peer : Peer) (es : ByPeer Link) (e : Peer × Link) → below_all peer_cmp peer es ≡ true → In e es → peer_cmp peer e.0 ≡ Less
below_in peer [] e h i = absurd i
below_in peer (x ∷ es) e h i = elim i [
  | inl q ↦ ap (λ (y : Peer × Link). peer_cmp peer y.0) q ∙ less _ (first _ _ h)
  | inr j ↦ below_in peer es e (second _ _ h) j
]

pub tied_self : (peer : Peer) → same_peer peer peer ≡ true
tied_self peer = (eq_by_cmp_equiv peer_total).refl peer

found_in : (es : ByPeer Link) (e : Peer × Link) → are_peers_in_order es ≡ true → In e es → find peer_cmp e.0 es ≡ Some e.1
found_in [] e h i = absurd i
found_in (x ∷ es) e h i = elim i [
  | inl q ↦ (
      let same : same_peer e.0 x.0 ≡ true = ap (λ (y : Peer × Link). same_peer e.0 y.0) (sym q) ∙ tied_self e.0 in
      ap (λ (b : Bool). cond b (Some x.1) (find peer_cmp e.0 es)) same ∙ ap (λ (y : Peer × Link). Some y.1) (sym q)
      )
  | inr j ↦ (
      let lt : peer_cmp x.0 e.0 ≡ Less = below_in x.0 es e (first _ _ h) j in
      let other : same_peer e.0 x.0 ≡ false = ap is_eq (peer_total.antisymm e.0 x.0 ∙ ap ordering_reverse lt) in
      ap (λ (b : Bool). cond b (Some x.1) (find peer_cmp e.0 es)) other ∙ found_in es e (second _ _ h) j
      )
]

-- what is sent is what is due on the link with its actor
pub sent_to_actor : (s : Links) (turn : Bool) (heard : Option Peer) (x : Sent) → are_peers_in_order s.ends ≡ true → In x (post_due s turn heard).sent → WasSent s turn heard x
sent_to_actor s turn heard x h i =
    let at = in_flat_map (sent_on s.me turn heard) x s.ends i in
    let e = at.0 in
    let p = In-map (packet_sent s.me e.0) x (due_of e.1.window turn (is_peer e.0 heard)) at.1.1 in
    let found : link_with s e.0 ≡ e.1 = ap (λ (o : Option Link). unwrap_or o (new_link s.width)) (found_in s.ends e h at.1.0) in
    let to : x.to ≡ e.0 = ap (λ (y : Sent). y.to) p.1.1 in
    let here : link_with s x.to ≡ e.1 = ap (λ (q : Peer). link_with s q) to ∙ found in
    let due : due_of (link_with s x.to).window turn (is_peer x.to heard) ≡ due_of e.1.window turn (is_peer e.0 heard) =
    ap (λ (q : Peer). due_of (link_with s q).window turn (is_peer q heard)) to ∙ ap (λ (l : Link). due_of l.window turn (is_peer e.0 heard)) found in
    record {
      sender = ap (λ (y : Sent). y.from) p.1.1;
      packet = p.0;
      due = subst (λ (ps : List Packet). In p.0 ps) (sym due) p.1.0;
      text = ap (λ (y : Sent). y.bytes) p.1.1;
    }
