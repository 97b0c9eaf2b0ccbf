-- What the laws of the steps say.
use Rattle.std.specs.Prelude.{◌≡◌, ℕ, true, List, [], ◌∷◌, Some, None}
use Rattle.fs_ident.specs.Ident.{child}
use Rattle.fs_ident.specs.declared.actor.Session.{Session}
use Rattle.fs_field.specs.declared.field.Field.TheVariants.{Life}
use Rattle.fs_field.specs.declared.lease_kind.LeaseKind.TheVariants.{Exclusive}
use Rattle.fs_field.specs.Table.{borne_numbers}
use Rattle.fs_field.specs.declared.row.Row.{Row}
use Rattle.fs_ident.specs.In.{In}
use Rattle.fs_msg.specs.declared.answer.Answer.TheVariants.{Granted}
use Rattle.fs_msg.specs.declared.answer.Grant.{Grant}
use Rattle.fs_msg.specs.declared.end.End.{End}
use Rattle.fs_msg.specs.declared.item.Item.{Item}
use Rattle.fs_record.specs.Fresh.{fresh_number, is_directory}
use Rattle.fs_server.specs.Asks.{Asking, grant_of, with_fresh}
use Rattle.fs_server.specs.declared.state.Server.{Server}
use Rattle.fs_view.specs.declared.view_lease.ViewLease.{ViewLease}
use Rattle.fs_serial.specs.Exchange.{ReturnsFit}
use Rattle.fs_serial.specs.Parts.{AllHold, with_client}
use Rattle.fs_serial.specs.Relies.{Relies}
use Rattle.fs_serial.specs.Settled.{Lease, Settled, granted, told, with_leases}
use Rattle.fs_serial.specs.Sight.{Counts, sight_of}

-- ## The gift of an identifier

-- the lease that comes with it
abbrev pub lease_given : Session → List ℕ → ℕ → Server → Lease
lease_given by dir k s = granted (Some (child dir k)) (grant_of by (Life (child dir k)) Exclusive s)

abbrev pub with_given : Session → List ℕ → ℕ → Server → Settled → Settled
with_given by dir k s d = with_leases (lease_given by dir k s ∷ []) d

-- a directory gives the least number that is free and borne by no row
abbrev pub IsGift : List ℕ → ℕ → Server → Type 0
IsGift dir k s = (is_directory s.records dir ≡ true) × (fresh_number s.records dir (borne_numbers dir s.rows) ≡ Some k)

-- the session gets it with an exclusive lease on the life of the file
abbrev pub GiftKeepsParts : Type 0
GiftKeepsParts =
    (o : Counts) (skew greatest : ℕ) (a : Asking) (journal : List Item) (replied : Session → List Item) (clients : Session → Settled)
    (by : Session) (dir : List ℕ) (k : ℕ)
    → AllHold skew greatest (sight_of o a.server journal) replied clients → IsGift dir k a.server
    → AllHold skew greatest (sight_of o (with_fresh by dir k a).server journal) replied
    (with_client by (with_given by dir k a.server (clients by)) clients)

-- whoever relies on what was before can go on
abbrev pub GiftIsRelied : Type 0
GiftIsRelied =
    (o : Counts) (skew greatest : ℕ) (a : Asking) (journal : List Item) (by x : Session) (dir : List ℕ) (k : ℕ)
    → IsGift dir k a.server → Relies skew greatest x (sight_of o a.server journal) (sight_of o (with_fresh by dir k a).server journal)

-- what goes back is no lease that is given
abbrev pub GiftReturnsNone : Type 0
GiftReturnsNone =
    (o : Counts) (a : Asking) (journal : List Item) (by : Session) (dir : List ℕ) (k : ℕ) (kept : List ViewLease) (d : Settled)
    → IsGift dir k a.server → ReturnsFit (sight_of o a.server journal).given a.server.rows by kept d.leases
    → ReturnsFit (sight_of o (with_fresh by dir k a).server journal).given (with_fresh by dir k a).server.rows by kept
    (with_given by dir k a.server d).leases

-- what the session is told with the identifier is the lease that comes with it, behind those that it is given before
abbrev pub GiftIsTold : Type 0
GiftIsTold =
    (a : Asking) (by : Session) (dir : List ℕ) (k : ℕ) (d : Settled) (e : End)
    → IsGift dir k a.server → ((g : Grant) → In g a.grants → (r : Row) × In r a.server.rows × (r.field ≡ g.field))
    → told by (Granted (with_fresh by dir k a).grants (with_fresh by dir k a).fresh e) d
    ≡ with_given by dir k a.server (told by (Granted a.grants None e) d)
