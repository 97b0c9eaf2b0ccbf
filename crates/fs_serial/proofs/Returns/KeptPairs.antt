-- What a client tells with the numbers of its leases.
use Rattle.std.proofs.Common.{◌≡◌, ℕ, List, [], ◌∷◌, map, refl, sym, ap, ◌∙◌, subst, inl, inr}
use Rattle.std.specs.Prelude.{Some, None, option_map}
use Rattle.fs_ident.specs.In.{In}
use Rattle.fs_ident.specs.declared.actor.LeaseNo.{LeaseNo}
use Rattle.fs_ident.specs.declared.actor.Session.{Session}
use Rattle.fs_field.specs.Field.{file_of}
use Rattle.fs_field.specs.declared.row.Row.{Row}
use Rattle.fs_lease.specs.Lease.{Lease as Term}
use Rattle.fs_msg.specs.declared.answer.Answer.{Answer}
use Rattle.fs_msg.specs.declared.client_msg.ClientMsg.{ClientMsg}
use Rattle.fs_msg.specs.declared.client_msg.ClientMsg.TheVariants.{Renew, Release}
use Rattle.fs_msg.specs.declared.item.Item.{Item}
use Rattle.fs_client.specs.Turns.{pair_of}
use Rattle.fs_client.specs.declared.state.Client.{Client}
use Rattle.fs_view.specs.declared.view_lease.ViewLease.{ViewLease}
use Rattle.fs_view.specs.declared.view_lease.Standing.{Standing}
use Rattle.fs_view.specs.declared.view_lease.Standing.TheVariants.{Held, Pinned, Leaving}
use Rattle.fs_view.specs.ViewLease.{is_leaving, lease_of}
use Rattle.fs_serial.specs.Exchange.{PairFits, PairsFit, pairs_in}
use Rattle.fs_serial.specs.Parts.{SessionFits}
use Rattle.fs_serial.specs.Settled.{Lease, Settled, lease_in, lease_with, settled_now}
use Rattle.fs_serial.specs.Sight.{Sight}
use Rattle.fs_serial.proofs.Lists.Journals.{each_image}
use Rattle.fs_serial.proofs.Replies.Knowing.{In-filter_map}
use Rattle.fs_serial.proofs.Replies.ReplyPins.{pair_in}
use Rattle.fs_serial.proofs.ClientMessages.SessionStates.{SessionStateHolds, seen_at, idle_due, settled_none}

-- a question that names no pairs
pub no_pairs : (given : ℕ → ℕ) (rows : List Row) (m : ClientMsg) → pairs_in m ≡ [] → PairsFit given rows (m ∷ [])
no_pairs given rows m none x i p j = elim i as (λ _. PairFits given rows p) [
  | inl e ↦ absurd (subst (λ ps. In p ps) (ap pairs_in e ∙ none) j)
  | inr z ↦ absurd z
]

-- what the client tells with the number of a lease is its file
lease_pair : (skew greatest : ℕ) (s : Sight) (by : Session) (d : Settled) (l : Lease) → SessionFits skew greatest s by d → In l d.leases → PairFits s.given s.rows (file_of l.field, l.no)
lease_pair skew greatest s by d l f i = record { known = f.given l i; place = λ r j e. ap file_of (f.matching l i r j e).field }

pub kept_pair : (skew greatest : ℕ) (s : Sight) (by : Session) (replied : List Item) (c : Client) (up : List ClientMsg) (down : List Answer) → c.exchange ≡ None → SessionStateHolds skew greatest s by replied c up down → (k : ViewLease) → In k c.view.leases → PairFits s.given s.rows (pair_of k)
kept_pair skew greatest s by replied c up down idle h k i = at k.standing refl
  where
    lease_here : (l : Term) → lease_of k.standing ≡ Some l → PairFits s.given s.rows (file_of l.field, l.no)
    lease_here l is =
        let none = idle_due c c.exchange up down idle h.exchange.one in
        let now : settled_now c ≡ seen_at by c down = sym (settled_none by down (settled_now c) none.1) in
        let x : Lease = lease_with k l in
        let there : In x (seen_at by c down).leases = subst (λ (d : Settled). In x d.leases) now (In-filter_map lease_in k x c.view.leases i (ap (option_map (lease_with k)) is)) in
        lease_pair skew greatest s by (seen_at by c down) x h.fits there

    at : (st : Standing) → k.standing ≡ st → PairFits s.given s.rows (pair_of k)
    at (Held l) e = subst (λ x. PairFits s.given s.rows (pair_in x)) (sym e) (lease_here l (ap lease_of e))
    at (Pinned u) e = subst (λ x. PairFits s.given s.rows (pair_in x)) (sym e) (lease_here u.lease (ap lease_of e))
    at (Leaving l) e = (h.exchange.returns k i (ap is_leaving e)).fits

pairs_of : (given : ℕ → ℕ) (rows : List Row) (ks : List ViewLease) → ((k : ViewLease) → In k ks → PairFits given rows (pair_of k)) → (p : List ℕ × LeaseNo) → In p (map pair_of ks) → PairFits given rows p
pairs_of given rows ks each = each_image pair_of (λ p. PairFits given rows p) ks each

pub renews_pairs : (given : ℕ → ℕ) (rows : List Row) (ks : List ViewLease) → ((k : ViewLease) → In k ks → PairFits given rows (pair_of k)) → PairsFit given rows (Renew (map pair_of ks) ∷ [])
renews_pairs given rows ks each m i p j = elim i as (λ _. PairFits given rows p) [
  | inl e ↦ pairs_of given rows ks each p (subst (λ x. In p (pairs_in x)) e j)
  | inr z ↦ absurd z
]

pub releases_pairs : (given : ℕ → ℕ) (rows : List Row) (ks : List ViewLease) → ((k : ViewLease) → In k ks → PairFits given rows (pair_of k)) → PairsFit given rows (Release (map pair_of ks) ∷ [])
releases_pairs given rows ks each m i p j = elim i as (λ _. PairFits given rows p) [
  | inl e ↦ pairs_of given rows ks each p (subst (λ x. In p (pairs_in x)) e j)
  | inr z ↦ absurd z
]
