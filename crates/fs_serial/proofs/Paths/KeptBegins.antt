-- Where an event begins, and at the start, all servers keep what they have to keep.
use Rattle.std.proofs.Common.{◌≡◌, ℕ, zero, suc, [], ◌∷◌, ◌++◌, map, refl, ap, ap₂, subst, inl, inr}
use Rattle.std.specs.Prelude.{Some, slice_get}
use Rattle.std.specs.FinMap.{empty}
use Rattle.std.specs.List.{flat_map}
use Rattle.fs_ident.specs.In.{In}
use Rattle.fs_ident.proofs.Standing.{In-append, In-got}
use Rattle.fs_server.specs.Server.{begun, first_server}
use Rattle.fs_server.specs.declared.state.Server.{Server}
use Rattle.fs_txn.specs.Leading.{said_by}
use Rattle.fs_txn.specs.Ready.{agreed_of}
use Rattle.fs_serial.specs.Cluster.{Cluster, first_cluster, first_servers, parcels_of}
use Rattle.fs_serial.specs.Joined.{with_parcels}
use Rattle.fs_serial.specs.KeptFiles.{FilesKept}
use Rattle.fs_serial.specs.Runs.{records_in}
use Rattle.fs_serial.specs.Seen.{ClusterHolds}
use Rattle.fs_serial.proofs.Paths.KeptAfter.{kept_after, tells_still}
use Rattle.fs_serial.proofs.Paths.KeptHere.{keeps_alike}
use Rattle.fs_serial.proofs.Paths.KeptPlaces.{left_alike}
use Rattle.fs_serial.proofs.Returns.Lapsing.{begun_at, same_records}
use Rattle.fs_serial.proofs.Transactions.LeavesLed.{begun_keeps_led}

-- ## An event begins

-- rows lapse, and nothing else changes
module _ (skew greatest now k : ℕ) (s : Server) (c : Cluster) (at : slice_get c.servers k ≡ Some s) (h : ClusterHolds skew greatest c)
    (f : FilesKept c) where
  abbrev then : Cluster
  then = begun_at now k s c

  abbrev here : In s c.servers
  here = In-got c.servers k s at

  same_then : records_in then ≡ records_in c
  same_then = ap (with_parcels (parcels_of c.in_flight)) (same_records c.servers k s (begun now s) empty at refl)

  pub begun_kept : FilesKept then
  begun_kept = kept_after k s (begun now s) c then at f (record {
    servers = refl;
    here = keeps_alike s (begun now s) (f.here s here) refl refl;
    prepared = λ x i. inl i;
    told = tells_still c then f (begun_keeps_led k now s c at h.led) (λ key place effects told. told)
        (λ d i. left_alike (records_in c) (records_in then) d.effect same_then) (λ file kind made. made);
    clients = λ y. refl;
    modes = f.modes s here;
  })

-- ## At the start

-- no part waits at the start, and nothing is led
nothing_first : (n skew term : ℕ) (s : Server) → In s (first_servers n skew term) → (s.prepared ≡ []) × (s.leading ≡ [])
nothing_first zero skew term s i = absurd i
nothing_first (suc n) skew term s i =
    elim (In-append s (first_servers n skew term) (first_server n skew term ∷ []) i) as (λ _. (s.prepared ≡ []) × (s.leading ≡ [])) [
      | inl j ↦ nothing_first n skew term s j
      | inr (inl e) ↦ (ap (λ (t : Server). t.prepared) e, ap (λ (t : Server). t.leading) e)
      | inr (inr z) ↦ absurd z
    ]

pub first_kept : (servers skew term : ℕ) → FilesKept (first_cluster servers skew term)
first_kept servers skew term = record {
  here = λ s i y file j.
      let none = nothing_first servers skew term s i in
      absurd (subst (In y) (ap₂ (λ ps ls. map agreed_of ps ++ flat_map (said_by s.me) ls) none.0 none.1) j);
  told = λ s i x j place effects told. absurd told;
  modes = λ s i l j. absurd (subst (In l) (nothing_first servers skew term s i).1 j);
}
