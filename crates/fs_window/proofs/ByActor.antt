-- Entries in order of their actors stay in order.
use Rattle.std.proofs.Common.{◌≡◌, ℕ, true, [], ◌∷◌, map, refl, ap, ◌∙◌}
use Rattle.std.specs.Prelude.{◌&&◌}
use Rattle.std.specs.Ordering.{is_lt}
use Rattle.std.specs.FinMap.Entries.{put, is_sorted-put, below_all}
use Rattle.fs_ident.specs.declared.actor.Peer.{Peer}
use Rattle.fs_ident.proofs.Booleans.{held, holds}
use Rattle.fs_window.specs.declared.link.Link.{Link}
use Rattle.fs_window.specs.Peers.{peer_cmp, ByPeer, are_peers_in_order}
use Rattle.fs_window.specs.Post.{AreLinks}
use Rattle.fs_window.proofs.PeerOrder.{peer_total}

-- with one more value
pub ordered_put : {V : Type 0} (peer : Peer) (v : V) (es : ByPeer V) → are_peers_in_order es ≡ true → are_peers_in_order (put peer_cmp peer v es) ≡ true
ordered_put peer v es h = holds _ (is_sorted-put peer_cmp peer_total peer v es (held _ h))

below_changed : {V : Type 0} (f : Peer × V → V) (peer : Peer) (es : ByPeer V) → below_all peer_cmp peer (map (λ e. (e.0, f e)) es) ≡ below_all peer_cmp peer es
below_changed f peer [] = refl
below_changed f peer (e ∷ es) = ap (λ b. is_lt (peer_cmp peer e.0) && b) (below_changed f peer es)

-- with other values
pub ordered_changed : {V : Type 0} (f : Peer × V → V) (es : ByPeer V) → are_peers_in_order (map (λ e. (e.0, f e)) es) ≡ are_peers_in_order es
ordered_changed f [] = refl
ordered_changed f (e ∷ es) =
    ap (λ b. b && are_peers_in_order (map (λ e. (e.0, f e)) es)) (below_changed f e.0 es)
    ∙ ap (λ b. below_all peer_cmp e.0 es && b) (ordered_changed f es)

-- links of which one is new
pub links_put : (me : Peer) (width : ℕ) (old new : ByPeer Link) (peer : Peer) (l : Link) → AreLinks (record { me = me; width = width; ends = old }) → new ≡ put peer_cmp peer l old → AreLinks (record { me = me; width = width; ends = new })
links_put me width old new peer l h e = record { wide = h.wide; narrow = h.narrow; ordered = ap (λ (es : ByPeer Link). are_peers_in_order es) e ∙ ordered_put peer l old h.ordered }

-- links that all changed
pub links_changed : (me : Peer) (width : ℕ) (old new : ByPeer Link) (f : Link → Link) → AreLinks (record { me = me; width = width; ends = old }) → new ≡ map (λ e. (e.0, f e.1)) old → AreLinks (record { me = me; width = width; ends = new })
links_changed me width old new f h e = record { wide = h.wide; narrow = h.narrow; ordered = ap (λ (es : ByPeer Link). are_peers_in_order es) e ∙ ordered_changed (λ (x : Peer × Link). f x.1) old ∙ h.ordered }
