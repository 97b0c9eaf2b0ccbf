-- What is reserved after a step was reserved before it.
use Rattle.std.proofs.Common.{◌≡◌, ℕ, List, refl, ap, subst}
use Rattle.std.specs.Prelude.{Some, None, is_some}
use Rattle.std.specs.FinMap.{get}
use Rattle.fs_ident.specs.In.{In}
use Rattle.fs_ident.specs.declared.actor.LeaseNo.{LeaseNo}
use Rattle.fs_ident.specs.declared.actor.Session.{Session}
use Rattle.fs_model.specs.Sound.{kind_of}
use Rattle.fs_msg.specs.declared.entry.Entry.{Entry}
use Rattle.fs_msg.specs.declared.item.Item.{Item}
use Rattle.fs_record.specs.Records.{RecordMap, node_of}
use Rattle.fs_serial.specs.Fresh.{AreOne, ByLease, ByLog, Claim, FreshReserved, HoldsFresh, IsAtOrBelow, IsMade, NodesMade, Reserved, Reserves}
use Rattle.fs_serial.specs.Settled.{Lease, Settled}

-- ## Of one session

-- by that lease, or, where the log reserves it, by whatever
abbrev pub Was : (Claim → List ℕ → Type 0) → Claim → List ℕ → Type 0
Was old (ByLease n) i = old (ByLease n) i
Was old ByLog i = (k : Claim) × old k i

pub was_there : (old : Claim → List ℕ → Type 0) (n : Claim) (i : List ℕ) → Was old n i → (k : Claim) × old k i
was_there old (ByLease n) i h = (ByLease n, h)
was_there old ByLog i h = h

pub is_there : (old : Claim → List ℕ → Type 0) (n : Claim) (i : List ℕ) → old n i → Was old n i
is_there old (ByLease n) i h = h
is_there old ByLog i h = (ByLog, h)

pub was_before : (old new : Claim → List ℕ → Type 0) → ((n : Claim) (i : List ℕ) → new n i → Was old n i) → (n : Claim) (i : List ℕ) → Was new n i → Was old n i
was_before old new fewer (ByLease n) i h = fewer (ByLease n) i h
was_before old new fewer ByLog i h = was_there old h.0 i (fewer h.0 i h.1)

-- the second client reserves nothing that the first did not
abbrev pub NoneAnew : Settled → Settled → Type 0
NoneAnew d e = (n : Claim) (i : List ℕ) → Reserves e n i → Was (Reserves d) n i

pub none_anew : (d : Settled) → NoneAnew d d
none_anew d n i h = is_there (Reserves d) n i h

pub none_anew_as : (d e : Settled) → e ≡ d → NoneAnew d e
none_anew_as d e same n i h = is_there (Reserves d) n i (subst (λ (x : Settled). Reserves x n i) same h)

pub none_anew_held : (d e : Settled) → ((n : LeaseNo) (i : List ℕ) → HoldsFresh e.leases n i → HoldsFresh d.leases n i) → ((x : Entry) → In x e.log → In x d.log) → NoneAnew d e
none_anew_held d e held log (ByLease n) i h = held n i h
none_anew_held d e held log ByLog i h = (ByLog, record { entry = h.entry; among = log h.entry h.among; named = h.named })

pub none_anew_in : (d e : Settled) → ((l : Lease) → In l e.leases → In l d.leases) → ((x : Entry) → In x e.log → In x d.log) → NoneAnew d e
none_anew_in d e leases log = none_anew_held d e (λ n i h. record { lease = h.lease; held = leases h.lease h.held; number = h.number; fresh = h.fresh; file = h.file }) log

pub none_anew_then : (c d e : Settled) → NoneAnew c d → NoneAnew d e → NoneAnew c e
none_anew_then c d e first second n i h = was_before (Reserves c) (Reserves d) first n i (second n i h)

-- ## Of all

pub one_still : (old : Reserved) (m : RecordMap) (journal : List Item) → FreshReserved old m journal → (x y : Session) (n k : Claim) (i j : List ℕ) → Was (old x) n i → Was (old y) k j → IsAtOrBelow i j → (x ≡ y) × (i ≡ j) × AreOne n k
one_still old m journal f x y (ByLease n) (ByLease k) i j a b p = f.once x y (ByLease n) (ByLease k) i j a b p
one_still old m journal f x y (ByLease n) ByLog i j a b p = let q = f.once x y (ByLease n) b.0 i j a b.1 p in (q.0, q.1, tt)
one_still old m journal f x y ByLog k i j a b p =
    let c = was_there (old y) k j b in
    let q = f.once x y a.0 c.0 i j a.1 c.1 p in
    (q.0, q.1, tt)

-- ## What is reserved does not live

-- what was not made does not live
pub unmade_dead : (m : RecordMap) (journal : List Item) (id : List ℕ) → NodesMade m journal → (IsMade journal id → ⊥) → kind_of (node_of (get m id)) ≡ None
unmade_dead m journal id h never_made =
    elim (kind_of (node_of (get m id))) as (λ o. kind_of (node_of (get m id)) ≡ o → o ≡ None) [
      | None ↦ λ e. refl
      | Some kind ↦ λ e. absurd (never_made (ap is_some (h id kind e)))
    ] refl

-- no identifier that a lease of the client reserves has a node
abbrev pub AreUnborn : RecordMap → Settled → Type 0
AreUnborn m d = (n : LeaseNo) (id : List ℕ) → HoldsFresh d.leases n id → kind_of (node_of (get m id)) ≡ None
