-- What a client does at its turn.
use Rattle.std.specs.Prelude.{ℕ, ◌+◌, ◌/◌, ◌==◌, Bool, true, false, not, ◌&&◌, nat_le, List, [], ◌∷◌, length, map, filter, Some, None, is_some, if◌then◌else◌}
use Rattle.fs_ident.specs.declared.actor.LeaseNo.{LeaseNo}
use Rattle.fs_model.specs.Step.{is_empty}
use Rattle.fs_msg.specs.declared.client_msg.ClientMsg.{ClientMsg}
use Rattle.fs_msg.specs.declared.client_msg.ClientMsg.TheVariants as client
use Rattle.fs_msg.specs.declared.client_note.ClientNote.{ClientNote}
use Rattle.fs_msg.specs.declared.entry.Entry.{Entry}
use Rattle.fs_model.specs.Asking.{home_of}
use Rattle.fs_msg.specs.declared.client_note.ClientNote.TheVariants as note
use Rattle.fs_view.specs.declared.view_lease.ViewLease.{ViewLease}
use Rattle.fs_view.specs.declared.view_lease.Standing.{Standing}
use Rattle.fs_view.specs.declared.view_lease.Standing.TheVariants.{Held, Pinned, Leaving}
use Rattle.fs_view.specs.ViewLease.{number_of, file_in}
use Rattle.fs_view.specs.View.{View}
use Rattle.fs_client.specs.declared.change.Change.{Change}
use Rattle.fs_client.specs.declared.change.Change.TheVariants as change
use Rattle.fs_client.specs.declared.exchange.Exchange.TheVariants as exchange
use Rattle.fs_client.specs.declared.plan.Plan.{Plan}
use Rattle.fs_client.specs.declared.state.Client.{Client}
use Rattle.fs_client.specs.Client.{begun}
use Rattle.fs_client.specs.Acts.{hinted, only_noted}

-- there is nothing to do
abbrev pub idle : Client → Plan ClientNote
idle c = only_noted change.Nothing note.Idle c

-- the lease and its file, as a message names it
abbrev pub pair_of : ViewLease → List ℕ × LeaseNo
pair_of k = (file_in k.standing, number_of k.standing)

abbrev pub numbers_in : List ViewLease → List LeaseNo
numbers_in ks = map (λ (k : ViewLease). number_of k.standing) ks

abbrev pub sends : ℕ → ClientNote → ClientMsg → Change → Client → Plan ClientNote
sends to n m ch c = record {
  ready = record { now = c.last; change = ch; hints = None };
  out = record { note = n; send = Some (to, m); admitted = None };
}

-- ## The log is handed in

-- the entries at the front that are handed in at the server
abbrev pub entries_at : Client → ℕ → List Entry → List Entry
entries_at c to [] = []
entries_at c to (e ∷ es) = if hinted c (home_of e.op) == to then e ∷ entries_at c to es else []

abbrev pub ships : ℕ → List Entry → Client → Plan ClientNote
ships to entries c = sends to (note.Ships (length entries) to) (client.Ship entries) (change.Ask (exchange.Ships to (length entries))) c

-- those at the front that are handed in where the first is
abbrev pub ship_some : List Entry → Client → Plan ClientNote
ship_some [] c = idle c
ship_some (e ∷ es) c = ships (hinted c (home_of e.op)) (entries_at c (hinted c (home_of e.op)) (e ∷ es)) c

-- ## Leases go back

-- no entry uses the lease and its server asked for it, or it goes back already
abbrev pub has_to_go : Bool → Standing → Bool
has_to_go recalled (Held l) = recalled
has_to_go recalled (Pinned u) = false
has_to_go recalled (Leaving l) = true

abbrev pub returned : View → List ViewLease
returned v = filter (λ (k : ViewLease). has_to_go k.recalled k.standing) v.leases

-- those on files that are said to be at the server
abbrev pub kept_at : Client → ℕ → List ViewLease → List ViewLease
kept_at c to ks = filter (λ (k : ViewLease). hinted c (file_in k.standing) == to) ks

abbrev pub releases : ℕ → List ViewLease → Client → Plan ClientNote
releases to ks c = sends to (note.Releases (length ks) to) (client.Release (map pair_of ks)) (change.Leave to (numbers_in ks)) c

-- ## Leases are kept

-- the lease does not go back, and ends at this reading or before
abbrev pub ends_by : ℕ → Standing → Bool
ends_by soon (Held l) = nat_le l.until soon
ends_by soon (Pinned u) = nat_le u.lease.until soon
ends_by soon (Leaving l) = false

abbrev pub ending : ℕ → View → List ViewLease
ending soon v = filter (λ (k : ViewLease). not k.recalled && ends_by soon k.standing) v.leases

abbrev pub renews : ℕ → List ViewLease → Client → Plan ClientNote
renews to ks c = sends to (note.Renews (length ks) to) (client.Renew (map pair_of ks)) (change.Ask (exchange.Renews to (numbers_in ks))) c

-- ## The turn: the first of these that there is to do, at the server of the first lease or entry

abbrev pub renew_some : List ViewLease → Client → Plan ClientNote
renew_some [] c = idle c
renew_some (k ∷ ks) c = renews (hinted c (file_in k.standing)) (kept_at c (hinted c (file_in k.standing)) (k ∷ ks)) c

abbrev pub release_some : List ViewLease → Client → Plan ClientNote
release_some [] c = renew_some (ending (c.last + c.term / 2) c.view) c
release_some (k ∷ ks) c = releases (hinted c (file_in k.standing)) (kept_at c (hinted c (file_in k.standing)) (k ∷ ks)) c

abbrev pub turn_free : Client → Plan ClientNote
turn_free c = if not (is_empty c.log) && not (is_some c.over) then ship_some c.log c else release_some (returned c.view) c

abbrev pub turn_on : Client → Plan ClientNote
turn_on c = if is_some c.exchange then idle c else turn_free c

abbrev pub turn_plan : Client → ℕ → Plan ClientNote
turn_plan c now = turn_on (begun now c)
