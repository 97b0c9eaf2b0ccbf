-- At the start no path is given out, and none is on its way.
use Rattle.std.proofs.Common.{◌≡◌, ℕ, [], ap, subst, arith}
use Rattle.std.specs.Prelude.{Some, slice_get}
use Rattle.fs_ident.specs.In.{In}
use Rattle.fs_ident.specs.declared.actor.PathNo.{PathNo}
use Rattle.fs_path.specs.Leases.{PathLease}
use Rattle.fs_path.specs.declared.having.Having.{Having}
use Rattle.fs_server.specs.declared.state.Server.{Server}
use Rattle.fs_serial.specs.Cluster.{first_cluster, first_servers}
use Rattle.fs_serial.specs.Paths.{PathsHold}
use Rattle.fs_serial.proofs.Lists.Servers.{In_at}
use Rattle.fs_serial.proofs.Paths.Counting.{IsNobodys, nobody_has}
use Rattle.fs_serial.proofs.WholeRuns.FirstCluster.{first_at}

module _ (servers skew term : ℕ) where
  none_issued : (s : Server) → In s (first_servers servers skew term) → (l : PathLease) → In l s.paths.issued → ⊥
  none_issued s i l j =
      let its = In_at (first_servers servers skew term) s i in
      subst (λ (x : Server). In l x.paths.issued) (first_at skew term servers its.place s its.is) j

  none_held : (k : ℕ) (s : Server) → slice_get (first_servers servers skew term) k ≡ Some s → (h : Having) → In h s.paths.held → ⊥
  none_held k s at h i = subst (λ (x : Server). In h x.paths.held) (first_at skew term servers k s at) i

  nobodys : (number : PathNo) → IsNobodys number (first_servers servers skew term) []
  nobodys number = record { unsent = λ f i. absurd i; unheld = λ k s at h i. absurd (none_held k s at h i) }

  pub first_paths : PathsHold (first_cluster servers skew term)
  first_paths = record {
    numbered = λ k s at. ap (λ (x : Server). x.me) (first_at skew term servers k s at);
    given = λ s i l j. absurd (none_issued s i l j);
    single = λ s i l j. absurd (none_issued s i l j);
    says = λ f i. absurd i;
    held = λ k s at h i. absurd (none_held k s at h i);
    once = λ number. let none = nobody_has number (first_servers servers skew term) [] (nobodys number) in omega (arith, none);
    truth = λ s i l j. absurd (none_issued s i l j);
  }
