-- The order of actors is total, and what a search by it finds.
use Rattle.std.proofs.Common.{◌≡◌, ℕ, ◌∷◌, [], length, Result, Ok, Err, IfOk, IfErr, refl, ap, arith, true, Less, Equal, Greater}
use Rattle.std.specs.Ordering.{ordering_reverse}
use Rattle.std.specs.Cmp.{IsTotalOrder, nat_cmp_total}
use Rattle.std.specs.FinMap.{IsAntisymmetric, nat_cmp-IsAntisymmetric}
use Rattle.std.specs.List.Sorted.{IsSearchInRange, IsBinarySearchResult, IsPartitionPoint}
use Rattle.fs_ident.specs.declared.actor.Peer.{Peer}
use Rattle.fs_ident.specs.declared.actor.Peer.TheVariants.{Server, Client}
use Rattle.fs_ident.proofs.Searched.{found_child, found_put, found_rest, gap_none, gap_put, indexes_rise}
use Rattle.fs_window.specs.Peers.{peer_cmp, ByPeer, are_peers_in_order, IsPlaceOf, IsGapFor}

pub peer_total : IsTotalOrder peer_cmp
peer_total = record { antisymm = turned; trans = through; congr = tied }
  where
    turned : (x y : Peer) → peer_cmp x y ≡ ordering_reverse (peer_cmp y x)
    turned (Server a) (Server b) = nat_cmp_total.antisymm a b
    turned (Server a) (Client b) = refl
    turned (Client a) (Server b) = refl
    turned (Client a) (Client b) = nat_cmp_total.antisymm a.0 b.0

    through : (x y z : Peer) → peer_cmp x y ≡ Less → peer_cmp y z ≡ Less → peer_cmp x z ≡ Less
    through (Server a) (Server b) (Server d) p q = nat_cmp_total.trans a b d p q
    through (Server a) (Server b) (Client d) p q = refl
    through (Server a) (Client b) (Server d) p q = absurd cc
    through (Server a) (Client b) (Client d) p q = refl
    through (Client a) (Server b) (Server d) p q = absurd cc
    through (Client a) (Server b) (Client d) p q = absurd cc
    through (Client a) (Client b) (Server d) p q = absurd cc
    through (Client a) (Client b) (Client d) p q = nat_cmp_total.trans a.0 b.0 d.0 p q

    tied : (x y z : Peer) → peer_cmp x y ≡ Equal → peer_cmp x z ≡ peer_cmp y z
    tied (Server a) (Server b) (Server d) p = nat_cmp_total.congr a b d p
    tied (Server a) (Server b) (Client d) p = refl
    tied (Server a) (Client b) z p = absurd cc
    tied (Client a) (Server b) z p = absurd cc
    tied (Client a) (Client b) (Server d) p = refl
    tied (Client a) (Client b) (Client d) p = nat_cmp_total.congr a.0 b.0 d.0 p

pub peer_same : IsAntisymmetric peer_cmp
peer_same (Server a) (Server b) e = ap (λ (n : ℕ). Server n) (nat_cmp-IsAntisymmetric a b e)
peer_same (Server a) (Client b) e = absurd cc
peer_same (Client a) (Server b) e = absurd cc
peer_same (Client a) (Client b) e = ap (λ (n : ℕ). Client (record { 0 = n })) (nat_cmp-IsAntisymmetric a.0 b.0 e)

-- what a search by actor finds among entries in order
pub searched : {V : Type 0} (entries : ByPeer V) (peer : Peer) (r : Result ℕ ℕ) → are_peers_in_order entries ≡ true → IsSearchInRange r (length entries)
    → IsBinarySearchResult (λ (e : Peer × V). peer_cmp e.0 peer) entries r
    → IfOk r (IsPlaceOf entries peer) × IfErr r (IsGapFor entries peer)
searched [] peer (Ok at) sorted within here = absurd (omega arith)
searched (e ∷ es) peer (Ok at) sorted within here = (
  record {
    within = within;
    key = λ d. peer_same _ _ (here d);
    value = λ d. found_child peer_cmp peer_total peer (e ∷ es) sorted at d within (here d);
    rest = found_rest peer_cmp peer_total peer (e ∷ es) sorted at e within (here e);
    replaced = λ v. found_put peer_cmp peer_total peer_same peer v (e ∷ es) sorted at e within (here e);
  },
  tt,
)
searched {V} entries peer (Err at) sorted within parted =
    let parts : IsPartitionPoint (λ (e : Peer × V). peer_cmp e.0 peer ≡ Less) (λ e. peer_cmp e.0 peer ≡ Greater) entries at =
    parted (indexes_rise peer_cmp peer_total peer entries sorted) in (
      tt,
      record {
        within = within;
        absent = gap_none peer_cmp peer_total peer entries at within parts;
        more = λ v. gap_put peer_cmp peer_total peer v entries at within parts;
      },
    )
