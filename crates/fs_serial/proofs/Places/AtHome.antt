-- Where everything is at its place, what others have is on files that are not managed here.
use Rattle.std.proofs.Common.{◌≡◌, ℕ, true, false, List, sym, ap, ◌∙◌}
use Rattle.std.proofs.lemmas.Bool.{false_from_ne_true}
use Rattle.std.specs.Prelude.{◌≢◌, Some, slice_get}
use Rattle.fs_ident.specs.In.{In}
use Rattle.fs_ident.proofs.Standing.{In-got}
use Rattle.fs_field.specs.Field.{file_of}
use Rattle.fs_field.specs.declared.row.Row.{Row}
use Rattle.fs_record.specs.declared.parcel.Parcel.{Parcel}
use Rattle.fs_server.specs.Server.{is_mine}
use Rattle.fs_server.specs.declared.state.Server.{Server}
use Rattle.fs_serial.specs.Cluster.{Cluster, parcels_of}
use Rattle.fs_serial.specs.Places.{PlacesHold}
use Rattle.fs_serial.proofs.Places.OnePlaces.{not_both, one_server, row_sent}

module _ (c : Cluster) (k : ℕ) (s : Server) (at : slice_get c.servers k ≡ Some s) (places : PlacesHold c) where
  -- what another server manages is not managed here
  elsewhere : (id : List ℕ) (j : ℕ) (t : Server) → slice_get c.servers j ≡ Some t → j ≢ k → is_mine t id ≡ true → is_mine s id ≡ false
  elsewhere id j t there other own = false_from_ne_true (is_mine s id) (λ here.
      let same : t ≡ s = one_server c.servers (parcels_of c.in_flight) places.one id t s (In-got c.servers j t there) (In-got c.servers k s at) own here in
      other (sym (places.numbered j t there) ∙ ap (λ (u : Server). u.me) same ∙ places.numbered k s at))

  pub others_rows : (j : ℕ) (t : Server) → slice_get c.servers j ≡ Some t → j ≢ k → (r : Row) → In r t.rows → is_mine s (file_of r.field) ≡ false
  others_rows j t there other r i = elsewhere (file_of r.field) j t there other ((places.homes t (In-got c.servers j t there)).rows r i)

  pub parcels_rows : (p : Parcel) → In p (parcels_of c.in_flight) → (r : Row) → In r p.rows → is_mine s (file_of r.field) ≡ false
  parcels_rows p i r j =
      let gives = row_sent c.journal p (places.sent p i) r j in
      false_from_ne_true (is_mine s (file_of r.field)) (λ here. not_both c.servers (parcels_of c.in_flight) places.one (file_of r.field) s p (In-got c.servers k s at) i here gives)
