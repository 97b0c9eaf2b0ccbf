-- Path leases that go back to their servers, and those that are left.
use Rattle.std.proofs.Common.{◌≡◌, ◌+◌, ℕ, Bool, not, List, [], ◌∷◌, map, refl, ap, sym, ◌∙◌, subst, inl, inr, arith}
use Rattle.std.specs.List.{filter}
use Rattle.fs_ident.specs.In.{In}
use Rattle.fs_ident.specs.declared.actor.PathNo.{PathNo}
use Rattle.fs_ident.proofs.Standing.{In-filter, In-map}
use Rattle.fs_msg.specs.declared.msg.Msg.TheVariants as msg
use Rattle.fs_msg.specs.declared.peer_msg.PeerMsg.TheVariants.{PathRelease}
use Rattle.fs_path.specs.Leases.{PathLease, named_to_peer}
use Rattle.fs_path.specs.Returns.{asked_back, goes_back, held_after, is_of, releases}
use Rattle.fs_path.specs.Tables.{lease_of}
use Rattle.fs_path.specs.declared.having.Having.{Having}
use Rattle.fs_server.specs.PathSteps.{path_recalls, path_releases}
use Rattle.fs_serial.specs.Cluster.{Cluster, InFlight, in_flight_from}
use Rattle.fs_serial.specs.Paths.{IsOut, SaysPath}
use Rattle.fs_serial.proofs.Lists.Counted.{one_if}
use Rattle.fs_serial.proofs.Paths.Counting.{asked_lease, had, had_after, on_way}

-- ## On their way

abbrev back : List Having → List (ℕ × PathNo)
back hs = map (λ h. named_to_peer (lease_of h)) hs

each_back : (n : PathNo) (k : ℕ) (hs : List Having) → on_way n (in_flight_from k (path_releases (back hs))) ≡ had n hs
each_back n k [] = refl
each_back n k (h ∷ hs) = ap (λ w. one_if (is_of n h) + w) (each_back n k hs)

pub recalls_bring_none : (n : PathNo) (k : ℕ) (xs : List (ℕ × PathNo)) → on_way n (in_flight_from k (path_recalls xs)) ≡ 0
recalls_bring_none n k [] = refl
recalls_bring_none n k (x ∷ xs) = let rest = recalls_bring_none n k xs in omega (arith, rest)

-- ## What they say

-- a lease of a server, as a message that gives it back says it
pub returned_says : (c : Cluster) (k : ℕ) (l : PathLease) → IsOut c l.peer (record l { peer = k }) → SaysPath c k l.peer (PathRelease l.no)
returned_says c k l o = (record l { peer = k }, (refl, (refl, o)))

releases_say : (c : Cluster) (k : ℕ) (hs : List Having) → ((h : Having) → In h hs → IsOut c (lease_of h).peer (record (lease_of h) { peer = k }))
    → (f : InFlight) → In f (in_flight_from k (path_releases (back hs))) → SaysPath c f.from f.to f.message
releases_say c k [] out f i = absurd i
releases_say c k (h ∷ hs) out f (inl e) = subst (λ (g : InFlight). SaysPath c g.from g.to g.message) (sym e) (returned_says c k (lease_of h) (out h (inl refl)))
releases_say c k (h ∷ hs) out f (inr i) = releases_say c k hs (λ g j. out g (inr j)) f i

pub recalls_say : (c : Cluster) (k : ℕ) (xs : List (ℕ × PathNo)) (f : InFlight) → In f (in_flight_from k (path_recalls xs))
    → SaysPath c f.from f.to f.message
recalls_say c k [] f i = absurd i
recalls_say c k (x ∷ xs) f (inl e) = subst (λ (g : InFlight). SaysPath c g.from g.to g.message) (sym e) tt
recalls_say c k (x ∷ xs) f (inr i) = recalls_say c k xs f i

-- ## Leases that are asked back

module _ (c : Cluster) (k : ℕ) (asked : Having → Bool) (issued : List PathLease) (held : List Having)
    (out : (h : Having) → In h held → IsOut c (lease_of h).peer (record (lease_of h) { peer = k })) where
  -- those that are left were had
  pub left_out : (h : Having) → In h (held_after asked issued held) → IsOut c (lease_of h).peer (record (lease_of h) { peer = k })
  left_out h i =
      let m = In-map (asked_back asked) h (filter (λ g. not (goes_back asked issued g)) held) i in
      let its : lease_of h ≡ lease_of m.0 = ap lease_of m.1.1 ∙ asked_lease asked m.0 in
      subst (λ (l : PathLease). IsOut c l.peer (record l { peer = k })) (sym its) (out m.0 (In-filter (λ g. not (goes_back asked issued g)) m.0 held m.1.0))

  -- those that go say so
  pub gone_say : (f : InFlight) → In f (in_flight_from k (path_releases (releases asked issued held))) → SaysPath c f.from f.to f.message
  gone_say f i = releases_say c k (filter (goes_back asked issued) held) (λ h j. out h (In-filter (goes_back asked issued) h held j)) f i

-- as many as before, left or on their way
pub as_many_back : (n : PathNo) (k : ℕ) (asked : Having → Bool) (issued : List PathLease) (held : List Having)
    → had n (held_after asked issued held) + on_way n (in_flight_from k (path_releases (releases asked issued held))) ≡ had n held
as_many_back n k asked issued held =
    let a = had_after n asked issued held in
    let b = each_back n k (filter (goes_back asked issued) held) in
    omega (arith, a, b)
