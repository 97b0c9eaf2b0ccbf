-- What is managed at a server is there, of all rows and records.
use Rattle.std.proofs.Common.{◌≡◌, ℕ, true, false, List, ap, subst, sym, ◌∙◌, inl, inr}
use Rattle.std.specs.Prelude.{Some, slice_get}
use Rattle.std.specs.FinMap.{get}
use Rattle.fs_ident.specs.In.{In}
use Rattle.fs_field.specs.declared.row.Row.{Row}
use Rattle.fs_field.specs.Field.{file_of}
use Rattle.fs_moderows.proofs.Moves.{came_or_was}
use Rattle.fs_server.specs.Server.{is_mine}
use Rattle.fs_server.specs.declared.state.Server.{Server}
use Rattle.fs_serial.specs.Cluster.{Cluster, parcels_of}
use Rattle.fs_serial.specs.Joined.{records_of_all, rows_of_all}
use Rattle.fs_serial.specs.Places.{PlacesHold}
use Rattle.fs_serial.proofs.Places.OtherPlaces.{IsApart, Rest, joined, record_here}
use Rattle.fs_serial.proofs.Places.ClusterPlaces.{IsBetween, all_here, apart_of, between, rest_of}

module _ (k : ℕ) (c : Cluster) (s : Server) (is : slice_get c.servers k ≡ Some s) (places : PlacesHold c) where
  abbrev all_rows : List Row
  all_rows = rows_of_all c.servers (parcels_of c.in_flight)

  b : IsBetween c.servers k s
  b = between c.servers k s is

  abbrev rest : Rest
  rest = rest_of b.front b.back (parcels_of c.in_flight)

  apart : IsApart rest s
  apart = apart_of c k s places b

  rows_are : all_rows ≡ (joined rest s).rows
  rows_are = ap (λ (t : Server). t.rows) (all_here c k s places b)

  -- each row on a file that is managed here is here
  pub row_at_home : (r : Row) → In r all_rows → is_mine s (file_of r.field) ≡ true → In r s.rows
  row_at_home r i mine = elim (came_or_was r rest.rows s.rows (subst (In r) rows_are i)) as (λ _. In r s.rows) [
    | inl j ↦ let wrong : true ≡ false = sym mine ∙ apart.rows r j in absurd (cc)
    | inr j ↦ j
  ]

  -- and the record of each such file
  pub record_at_home : (file : List ℕ) → is_mine s file ≡ true
      → get (records_of_all c.servers (parcels_of c.in_flight)) file ≡ get s.records file
  record_at_home file mine = ap (λ (t : Server). get t.records file) (all_here c k s places b) ∙ record_here rest s apart file mine
