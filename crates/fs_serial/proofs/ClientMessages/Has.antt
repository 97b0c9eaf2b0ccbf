-- The leases of a client as it will be: those that it has, and those that are granted to it on the way.
use Rattle.std.proofs.Common.{◌≡◌, ℕ, List, [], ◌∷◌, map, ap, subst, inl, inr}
use Rattle.std.specs.Prelude.{Option, Some, option_map}
use Rattle.fs_ident.specs.In.{In}
use Rattle.fs_ident.specs.declared.actor.Session.{Session}
use Rattle.fs_ident.proofs.Standing.{In-behind, In-mapped}
use Rattle.fs_lease.specs.Lease.{Lease as Term}
use Rattle.fs_msg.specs.declared.answer.Answer.{Answer}
use Rattle.fs_msg.specs.declared.answer.Answer.TheVariants.{Granted}
use Rattle.fs_msg.specs.declared.answer.Grant.{Grant}
use Rattle.fs_msg.specs.declared.end.End.{End}
use Rattle.fs_view.specs.declared.view_lease.ViewLease.{ViewLease}
use Rattle.fs_view.specs.ViewLease.{lease_of}
use Rattle.fs_client.specs.declared.state.Client.{Client}
use Rattle.fs_serial.specs.Settled.{HasLeaseAs, Settled, granted, lease_in, lease_with, settled, settled_now, told}
use Rattle.fs_serial.proofs.Replies.Knowing.{In-filter_map}
use Rattle.fs_serial.proofs.ClientMessages.Settling.{stays}

pub has_held : (by : Session) (c : Client) (down : List Answer) (k : ViewLease) (l : Term) → In k c.view.leases → lease_of k.standing ≡ Some l → HasLeaseAs (settled by down (settled_now c)).leases l.no l.field l.kind l.until
has_held by c down k l i is = stays by down (settled_now c) (lease_with k l) (In-filter_map lease_in k (lease_with k l) c.view.leases i (ap (option_map (lease_with k)) is))

pub has_granted : (by : Session) (down : List Answer) (d : Settled) (grants : List Grant) (fresh : Option (List ℕ)) (end : End) (g : Grant) → In (Granted grants fresh end) down → In g grants → HasLeaseAs (settled by down d).leases g.no g.field g.kind g.until
has_granted by [] d grants fresh end g i j = absurd i
has_granted by (a ∷ rest) d grants fresh end g (inl is) j =
    subst (λ b. HasLeaseAs (settled by rest (told by b d)).leases g.no g.field g.kind g.until) is
    (stays by rest (told by (Granted grants fresh end) d) (granted fresh g) (In-behind (granted fresh g) d.leases (map (granted fresh) grants) (In-mapped (granted fresh) g grants j)))
has_granted by (a ∷ rest) d grants fresh end g (inr i) j = has_granted by rest (told by a d) grants fresh end g i j
