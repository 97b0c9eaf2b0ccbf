-- A parcel that comes: it fits, all rows and records are as before, and everything is at its place.
use Rattle.std.proofs.Common.{◌≡◌, ◌≤◌, ◌++◌, ℕ, true, List, [], refl, ap, sym, ◌∙◌, subst, append-nil, ◌<◌, length, Bool, ap₂, ◌∷◌}
use Rattle.std.proofs.lemmas.Grind.{flat_map-append}
use Rattle.std.specs.Prelude.{Some, slice_get, slice_set}
use Rattle.std.specs.List.{find}
use Rattle.fs_ident.specs.In.{In}
use Rattle.fs_ident.proofs.Standing.{In-got}
use Rattle.fs_msg.specs.declared.peer_msg.PeerMsg.TheVariants as peer
use Rattle.fs_msg.specs.declared.server_note.ServerNote.TheVariants as note
use Rattle.fs_record.specs.declared.parcel.Parcel.{Parcel}
use Rattle.fs_server.specs.Moves.{fits_here, installed}
use Rattle.fs_server.specs.Server.{only_noted}
use Rattle.fs_server.specs.declared.event.ServerEvent.TheVariants.{FromPeer}
use Rattle.fs_server.specs.declared.state.Server.{Server}
use Rattle.fs_txn.specs.Decided.{held_with}
use Rattle.fs_serial.proofs.Lists.Traffic.{taken_first}
use Rattle.fs_serial.specs.Cluster.{Cluster, InFlight, after_step, is_between, parcels_of, without_first}
use Rattle.fs_serial.specs.Joined.{effects_by, effects_on_way, records_of_all, rows_of_all}
use Rattle.fs_serial.specs.Parts.{ServersFit, ServersHold}
use Rattle.fs_serial.specs.Places.{PlacesHold}
use Rattle.fs_serial.specs.Refusals.{rows_in}
use Rattle.fs_serial.specs.Runs.{held_by, records_in}
use Rattle.fs_serial.specs.Seen.{with_all}
use Rattle.fs_serial.specs.Sight.{Counts, count_with, sight_of}
use Rattle.fs_serial.proofs.Moves.ComingParts.{came_home, came_managed, came_named, came_parts}
use Rattle.fs_serial.proofs.Lists.Counted.{total_set}
use Rattle.fs_serial.proofs.Places.HeldRecords.{same_records}
use Rattle.fs_serial.proofs.Places.HeldRows.{same_rows}
use Rattle.fs_serial.proofs.Places.OnePlaces.{one_record}
use Rattle.fs_serial.proofs.Moves.ParcelFits.{RowsStand, flying_fits}
use Rattle.fs_serial.proofs.Moves.Parcels.{taken_either, taken_less, taken_there, taken_total}
use Rattle.fs_serial.proofs.Moves.Parted.{IsInPlace, one_whole, record_parted, record_whole, row_parted, row_whole, times_same}
use Rattle.fs_serial.proofs.Moves.Replaced.{replaced, replaced_places}
use Rattle.fs_serial.proofs.Lists.SetAt.{In_kept, In_new, In_set, In_without}
use Rattle.fs_serial.proofs.Lists.Times.{all_once}
use Rattle.std.proofs.lemmas.Option.{slice_get_within}
use Rattle.fs_field.specs.declared.effect.Effect.{Effect}

module _ (k from : ℕ) (c : Cluster) (s : Server) (p : Parcel) (at : slice_get c.servers k ≡ Some s) (h : PlacesHold c) (way : find (is_between from k) c.in_flight ≡ Some (record { from = from; to = k; message = peer.Parcel p })) where
  abbrev comes : InFlight
  comes = record { from = from; to = k; message = peer.Parcel p }

  here : In s c.servers
  here = In-got c.servers k s at

  abbrev before : List Parcel
  before = parcels_of c.in_flight

  flies : In p before
  flies = taken_there (is_between from k) c.in_flight comes way p refl

  abbrev servers_then : List Server
  servers_then = slice_set c.servers k (installed p s)

  abbrev flying_then : List InFlight
  flying_then = without_first (is_between from k) c.in_flight

  abbrev parcels_then : List Parcel
  parcels_then = parcels_of flying_then

  in_place : IsInPlace (installed p s) s p servers_then c.servers parcels_then before
  in_place = record {
    there = In_new c.servers k s (installed p s) at;
    here = here;
    whole_kept = λ x i. In_set c.servers k (installed p s) x i;
    parted_kept = λ x i. In_kept c.servers k s (installed p s) x at i;
    servers = λ g. total_set g c.servers k s (installed p s) at;
    flies = flies;
    less_kept = taken_less (is_between from k) c.in_flight;
    more_kept = taken_either (is_between from k) c.in_flight comes way p refl;
    in_flight = taken_total (is_between from k) c.in_flight comes way p refl;
  }

  rows_then : rows_of_all servers_then (parcels_of flying_then) ≡ rows_of_all c.servers (parcels_of c.in_flight)
  rows_then = same_rows c.servers servers_then (parcels_of c.in_flight) (parcels_of flying_then) h.ordered
      (λ n. subst (λ j. j ≤ 1) (times_same (installed p s) s p servers_then c.servers parcels_then before in_place (came_parts c h s here p flies) n) (all_once c.servers (parcels_of c.in_flight) h.ordered n))
      (row_whole (installed p s) s p servers_then c.servers parcels_then before in_place (came_parts c h s here p flies))
      (row_parted (installed p s) s p servers_then c.servers parcels_then before in_place (came_parts c h s here p flies))

  records_then : records_of_all servers_then (parcels_of flying_then) ≡ records_of_all c.servers (parcels_of c.in_flight)
  records_then = same_records c.servers servers_then (parcels_of c.in_flight) (parcels_of flying_then) (one_record c h)
      (record_whole (installed p s) s p servers_then c.servers parcels_then before in_place (came_parts c h s here p flies))
      (record_parted (installed p s) s p servers_then c.servers parcels_then before in_place (came_parts c h s here p flies))

  places_then : PlacesHold (replaced k (installed p s) flying_then c.lines c)
  places_then = replaced_places c h k s (installed p s) at flying_then c.lines refl
      (one_whole (installed p s) s p servers_then c.servers parcels_then before in_place (came_managed c h s here p flies) h.one)
      (came_home c h s here p flies)
      (λ x i. h.sent x (taken_less (is_between from k) c.in_flight x i))
      (λ f i. h.goes f (In_without (is_between from k) c.in_flight f i))
      (came_named c h s here p flies (subst (λ n. n < length c.servers) (sym (h.numbered k s at)) (slice_get_within c.servers k s at)))
      rows_then

-- an honest parcel fits where it comes
pub parcel_stands : (k from : ℕ) (c : Cluster) (s : Server) (p : Parcel) → slice_get c.servers k ≡ Some s → PlacesHold c
    → find (is_between from k) c.in_flight ≡ Some (record { from = from; to = k; message = peer.Parcel p })
    → (o : Counts) → RowsStand (count_with s.me s.given o.given) (with_all s c).records (with_all s c).rows → fits_here p s ≡ true
parcel_stands k from c s p at h way o = flying_fits c h s (here k from c s p at h way) p (flies k from c s p at h way) o

pub parcel_fits : (k from : ℕ) (c : Cluster) (s : Server) (p : Parcel) → slice_get c.servers k ≡ Some s → PlacesHold c
    → find (is_between from k) c.in_flight ≡ Some (record { from = from; to = k; message = peer.Parcel p })
    → (o : Counts) → ServersHold (sight_of o (with_all s c) c.journal) → ServersFit (sight_of o (with_all s c) c.journal)
    → fits_here p s ≡ true
parcel_fits k from c s p at h way o hold fit = parcel_stands k from c s p at h way o
    (record { apart = hold.apart; promises = hold.promises; counted = fit.counted; given = fit.given })

-- all rows and records are as before
pub arriving_same : (k from : ℕ) (c : Cluster) (s : Server) (p : Parcel) → slice_get c.servers k ≡ Some s → PlacesHold c
    → find (is_between from k) c.in_flight ≡ Some (record { from = from; to = k; message = peer.Parcel p })
    → (rows_in (after_step k (FromPeer from (peer.Parcel p)) (only_noted (note.Installs p.prefix) (installed p s)) c) ≡ rows_in c)
    × (records_in (after_step k (FromPeer from (peer.Parcel p)) (only_noted (note.Installs p.prefix) (installed p s)) c) ≡ records_in c)
arriving_same k from c s p at h way =
    let later : List Server = slice_set c.servers k (installed p s) in
    let none : without_first (is_between from k) c.in_flight ++ [] ≡ without_first (is_between from k) c.in_flight = append-nil (without_first (is_between from k) c.in_flight) in (
      ap (λ (fs : List InFlight). rows_of_all later (parcels_of fs)) none ∙ rows_then k from c s p at h way,
      ap (λ (fs : List InFlight). records_of_all later (parcels_of fs)) none ∙ records_then k from c s p at h way,
    )

-- everything is at its place
pub arriving_places : (k from : ℕ) (c : Cluster) (s : Server) (p : Parcel) → slice_get c.servers k ≡ Some s → PlacesHold c
    → find (is_between from k) c.in_flight ≡ Some (record { from = from; to = k; message = peer.Parcel p })
    → PlacesHold (after_step k (FromPeer from (peer.Parcel p)) (only_noted (note.Installs p.prefix) (installed p s)) c)
arriving_places k from c s p at h way =
    subst (λ fs. PlacesHold (replaced k (installed p s) fs c.lines c)) (sym (append-nil (without_first (is_between from k) c.in_flight))) (places_then k from c s p at h way)

-- and so is what all hold together, since a parcel tells no effect
pub arriving_keeps : (k from : ℕ) (c : Cluster) (s : Server) (p : Parcel) → slice_get c.servers k ≡ Some s → PlacesHold c
    → find (is_between from k) c.in_flight ≡ Some (record { from = from; to = k; message = peer.Parcel p })
    → (rows_in (after_step k (FromPeer from (peer.Parcel p)) (only_noted (note.Installs p.prefix) (installed p s)) c) ≡ rows_in c)
    × (held_by (after_step k (FromPeer from (peer.Parcel p)) (only_noted (note.Installs p.prefix) (installed p s)) c) ≡ held_by c)
arriving_keeps k from c s p at h way =
    let is : InFlight → Bool = is_between from k in
    let q = taken_first is c.in_flight (record { from = from; to = k; message = peer.Parcel p }) way in
    let each : InFlight → List Effect = λ g. effects_by g.message in
    let told : effects_on_way (without_first is c.in_flight ++ []) ≡ effects_on_way c.in_flight =
    ap effects_on_way (append-nil (without_first is c.in_flight) ∙ q.left) ∙ flat_map-append each q.front q.back
    ∙ sym (flat_map-append each q.front (record { from = from; to = k; message = peer.Parcel p } ∷ q.back)) ∙ sym (ap effects_on_way q.whole) in
    let same = arriving_same k from c s p at h way in
    (same.0, ap₂ held_with told same.1)
