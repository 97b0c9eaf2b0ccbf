-- Everything is at its place after a server took the place of another and parcels came or went.
use Rattle.std.proofs.Common.{◌≡◌, ℕ, ◌<◌, List, [], ◌++◌, length, length-set, ap, sym, ◌∙◌, subst, inl, inr, append-nil}
use Rattle.std.specs.Prelude.{Some, slice_get, slice_set}
use Rattle.fs_ident.specs.In.{In}
use Rattle.fs_ident.specs.declared.actor.Session.{Session}
use Rattle.fs_field.specs.Table.{is_ordered}
use Rattle.fs_map.specs.Map.{server_of}
use Rattle.fs_record.specs.declared.parcel.Parcel.{Parcel}
use Rattle.fs_server.specs.declared.state.Server.{Server}
use Rattle.fs_serial.specs.Cluster.{Cluster, InFlight, Lines, parcels_of}
use Rattle.fs_serial.specs.Joined.{rows_of_all}
use Rattle.fs_serial.specs.Places.{IsHome, IsSent, OnePlace, PlacesHold, IsUnderway}
use Rattle.fs_serial.proofs.Lists.SetAt.{In_set, get_set}

-- the cluster then: no entry joined the journal
abbrev pub replaced : ℕ → Server → List InFlight → (Session → Lines) → Cluster → Cluster
replaced k t in_flight lines c = record {
  servers = slice_set c.servers k t;
  in_flight = in_flight;
  journal = c.journal ++ [];
  replied = c.replied;
  lines = lines;
}

module _ (c : Cluster) (h : PlacesHold c) (k : ℕ) (s t : Server) (at : slice_get c.servers k ≡ Some s) (in_flight : List InFlight) (lines : Session → Lines) where
  home_then : IsHome c.journal t → (x : Server) → In x (slice_set c.servers k t) → IsHome (c.journal ++ []) x
  home_then own x i = subst (λ j. IsHome j x) (sym (append-nil c.journal)) (elim (In_set c.servers k t x i) as (λ _. IsHome c.journal x) [
    | inl e ↦ subst (IsHome c.journal) (sym e) own
    | inr j ↦ h.homes x j
  ])

  sent_then : ((p : Parcel) → In p (parcels_of in_flight) → IsSent c.journal p) → (p : Parcel) → In p (parcels_of in_flight) → IsSent (c.journal ++ []) p
  sent_then each p i = subst (λ j. IsSent j p) (sym (append-nil c.journal)) (each p i)

  goes_then : ((f : InFlight) → In f in_flight → IsUnderway (length c.servers) f) → (f : InFlight) → In f in_flight → IsUnderway (length (slice_set c.servers k t)) f
  goes_then goes f i = subst (λ n. IsUnderway n f) (sym (length-set c.servers k t)) (goes f i)

  numbered_then : t.me ≡ s.me → (j : ℕ) (x : Server) → slice_get (slice_set c.servers k t) j ≡ Some x → x.me ≡ j
  numbered_then me j x e = elim (get_set c.servers k j t x e) as (λ _. x.me ≡ j) [
    | inl q ↦ ap (λ (y : Server). y.me) q.1 ∙ me ∙ h.numbered k s at ∙ q.0
    | inr g ↦ h.numbered j x g
  ]

  named_then : ((id : List ℕ) → server_of t.map id < length c.servers) → (x : Server) → In x (slice_set c.servers k t) → (id : List ℕ) → server_of x.map id < length (slice_set c.servers k t)
  named_then own x i id = subst (λ n. server_of x.map id < n) (sym (length-set c.servers k t)) (elim (In_set c.servers k t x i) as (λ _. server_of x.map id < length c.servers) [
    | inl e ↦ subst (λ (y : Server). server_of y.map id < length c.servers) (sym e) (own id)
    | inr j ↦ h.named x j id
  ])

  pub replaced_places : t.me ≡ s.me → OnePlace (slice_set c.servers k t) (parcels_of in_flight) → IsHome c.journal t
      → ((p : Parcel) → In p (parcels_of in_flight) → IsSent c.journal p)
      → ((f : InFlight) → In f in_flight → IsUnderway (length c.servers) f)
      → ((id : List ℕ) → server_of t.map id < length c.servers)
      → rows_of_all (slice_set c.servers k t) (parcels_of in_flight) ≡ rows_of_all c.servers (parcels_of c.in_flight)
      → PlacesHold (replaced k t in_flight lines c)
  replaced_places me one own each goes named rows = record {
    one = one;
    homes = home_then own;
    sent = sent_then each;
    goes = goes_then goes;
    ordered = ap is_ordered rows ∙ h.ordered;
    numbered = numbered_then me;
    named = named_then named;
  }
