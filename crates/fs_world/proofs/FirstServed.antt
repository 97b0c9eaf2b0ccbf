-- What holds holds of the first world of the servers form.
use Rattle.std.proofs.Common.{◌≡◌, ℕ, zero, suc, ◌≤◌, [], ◌∷◌, ◌++◌, inl, inr, ◌⊎◌, ap, sym, subst}
use Rattle.std.specs.Prelude.{None}
use Rattle.std.specs.FinMap.{empty, get-empty}
use Rattle.std.specs.Ordering.{nat_cmp}
use mathlib.Core.Path.{fun_ext}
use Rattle.fs_ident.specs.In.{In}
use Rattle.fs_ident.specs.declared.actor.Session.{Session}
use Rattle.fs_ident.proofs.Standing.{In-append}
use Rattle.fs_server.specs.Server.{first_server}
use Rattle.fs_server.specs.declared.state.Server.{Server}
use Rattle.fs_serial.specs.Cluster.{Lines, first_lines, first_servers}
use Rattle.fs_serial.specs.Owed.{ends_with, owed_to}
use Rattle.fs_world.specs.Order.{first_tale}
use Rattle.fs_world.specs.Parts.{lines_in, lines_of}
use Rattle.fs_world.specs.Served.{first_served}
use Rattle.fs_world.proofs.SerialLaws.{EventLaws}
use Rattle.fs_world.proofs.Coming.{none_comes}
use Rattle.fs_world.proofs.RepliesGiven.{IsTelling}
use Rattle.fs_world.proofs.SessionSteps.{HoldsOf}
use Rattle.fs_world.proofs.StayingServers.{first_count}

first_seen : (term : ℕ) → first_lines term ≡ lines_of term empty
first_seen term = fun_ext (λ x. ap (lines_in term x) (sym (get-empty nat_cmp x.0)))

-- a new server has no row
no_rows : (servers skew term : ℕ) (s : Server) → In s (first_servers servers skew term) → s.rows ≡ []
no_rows zero skew term s i = absurd i
no_rows (suc k) skew term s i = either (In-append s (first_servers k skew term) (first_server k skew term ∷ []) i) (no_rows k skew term s)
  where
    either : In s (first_servers k skew term) ⊎ In s (first_server k skew term ∷ []) → (In s (first_servers k skew term) → s.rows ≡ [])
        → s.rows ≡ []
    either (inl i) before = before i
    either (inr (inl e)) before = ap (λ (x : Server). x.rows) e
    either (inr (inr z)) before = absurd z

pub first_holds : (laws : EventLaws) (servers skew term : ℕ) → 1 ≤ servers
    → HoldsOf laws servers skew 0 first_tale (first_served servers skew term)
first_holds laws servers skew term some = record {
  replied = λ x. [];
  cluster = subst (λ (lines : Session → Lines). laws.Holds skew 0 (record {
    servers = first_servers servers skew term;
    in_flight =
        [];
    journal = [];
    replied = λ x. [];
    lines = lines;
  })) (first_seen term) (laws.first servers skew term 0 some);
  many = first_count servers skew term;
  rows = λ s i row j. absurd (subst (In row) (no_rows servers skew term s i) j);
  parcels = λ f i. absurd i;
  answered = λ x.
      let all = first_servers servers skew term in
      subst (λ (l : Lines). IsTelling x (ends_with x all l) [] [] None) (ap (λ (f : Session → Lines). f x) (first_seen term)) (record {
        told = record { front = []; split = sym (none_comes x (owed_to x all ++ [])); told = tt };
        asked = λ d e. absurd (cc);
      });
  items = tt;
}
