-- Where a server changes no more than what it has of paths, and tells other servers of paths alone, all rows and records are as they
-- were; and everything is at its place, if what is sent goes to servers that there are.
use Rattle.std.proofs.Common.{◌≡◌, ℕ, List, [], ◌∷◌, ◌++◌, length, refl, ap, ap₂, ◌∙◌, append-nil, zero, suc}
use Rattle.std.specs.Prelude.{Some, slice_get, slice_set}
use Rattle.std.specs.FinMap.{empty}
use Rattle.fs_ident.specs.In.{In}
use Rattle.fs_ident.specs.declared.actor.Peer.{Peer}
use Rattle.fs_ident.proofs.Standing.{In-got}
use Rattle.fs_field.specs.declared.row.Row.{Row}
use Rattle.fs_msg.specs.declared.msg.Msg.{Msg}
use Rattle.fs_msg.specs.declared.server_note.ServerNote.{ServerNote}
use Rattle.fs_path.specs.Tables.{PathTables}
use Rattle.fs_record.specs.declared.parcel.Parcel.{Parcel}
use Rattle.fs_rows.specs.Granted.{with_rows}
use Rattle.fs_server.specs.declared.event.ServerEvent.{ServerEvent}
use Rattle.fs_server.specs.declared.state.Server.{Server}
use Rattle.fs_serial.specs.Cluster.{Cluster, InFlight, after_step, in_flight_from, parcels_of, replies_after, with_sent}
use Rattle.fs_serial.specs.Cluster.{without_arrived, without_question}
use Rattle.fs_serial.specs.Joined.{records_of_all, with_parcels, with_rows_in, with_rows_of}
use Rattle.fs_serial.specs.Places.{PlacesHold}
use Rattle.fs_serial.specs.Refusals.{rows_in}
use Rattle.fs_serial.specs.Runs.{records_in}
use Rattle.fs_serial.proofs.Moves.Parcels.{parcels-append}
use Rattle.fs_serial.proofs.Moves.PathSteps.{ArePathSends, none_handed, path_stepped}
use Rattle.fs_serial.proofs.Returns.Lapsing.{same_records}
use Rattle.fs_serial.proofs.Transactions.PlacesAfter.{AreWords, places_stepped, relocked_not}

-- a server with the same rows takes the place of one
rows_still : (ss : List Server) (k : ℕ) (s t : Server) (rows : List Row) → slice_get ss k ≡ Some s → t.rows ≡ s.rows
    → with_rows_of (slice_set ss k t) rows ≡ with_rows_of ss rows
rows_still [] k s t rows at e = refl
rows_still (x ∷ xs) zero s t rows at e =
    let q : s ≡ x = cc in
    ap (λ (rs : List Row). with_rows_of xs (with_rows rs rows)) (e ∙ ap (λ (u : Server). u.rows) q)
rows_still (x ∷ xs) (suc k) s t rows at e = rows_still xs k s t (with_rows x.rows rows) at e

module _ (k : ℕ) (c : Cluster) (s : Server) (at : slice_get c.servers k ≡ Some s) (e : ServerEvent)
    (still : parcels_of (without_arrived k e c.in_flight) ≡ parcels_of c.in_flight)
    (n : ServerNote) (ms : List (Peer × Msg)) (paths : PathTables) (asking : List (List ℕ)) (given : ℕ) where
  abbrev t : Server
  t = record s { paths = paths; asking = asking; paths_given = given }

  abbrev after : Cluster
  after = after_step k e (path_stepped n ms paths asking given s) c

  pub quiet_same : ArePathSends ms → (rows_in after ≡ rows_in c) × (records_in after ≡ records_in c)
  quiet_same are =
      let parcels : parcels_of after.in_flight ≡ parcels_of c.in_flight =
      parcels-append (without_arrived k e c.in_flight) (in_flight_from k ms)
      ∙ ap₂ (λ (x y : List Parcel). x ++ y) still (none_handed k ms are) ∙ append-nil (parcels_of c.in_flight) in (
        ap₂ (λ (ps : List Parcel) (rows : List Row). with_rows_in ps rows) parcels (rows_still c.servers k s t [] at refl),
        ap (λ (ps : List Parcel). records_of_all (slice_set c.servers k t) ps) parcels
            ∙ ap (with_parcels (parcels_of c.in_flight)) (same_records c.servers k s t empty at refl),
      )

  pub quiet_places : PlacesHold c → ((f : InFlight) → In f (without_arrived k e c.in_flight) → In f c.in_flight)
      → AreWords (length c.servers) ms → PlacesHold after
  quiet_places h among words =
      places_stepped k c s t at h (record {
        me = refl;
        owners = refl;
        rows = relocked_not s.rows;
        records = (h.homes s (In-got c.servers k s at)).records;
      }) (without_arrived k e c.in_flight) ms [] (replies_after e [] c.replied) (with_sent k ms (without_question k e c.lines))
      still among words
