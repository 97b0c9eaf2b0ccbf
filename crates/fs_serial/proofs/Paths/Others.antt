-- Every other kind of step leaves all leases true.
use Rattle.std.proofs.Common.{◌≡◌, ◌∙◌, ℕ, List, true, false, sym, subst, inl, inr}
use Rattle.std.specs.Prelude.{◌⊎◌, None, Some, slice_get}
use Rattle.fs_ident.specs.Ident.{same}
use Rattle.fs_ident.specs.In.{In}
use Rattle.fs_ident.proofs.Same.{same_self}
use Rattle.fs_ident.proofs.Standing.{In-got}
use Rattle.fs_moderows.proofs.Witnesses.{In_any}
use Rattle.fs_path.specs.Leases.{PathLease, goes_over}
use Rattle.fs_path.specs.Tables.{through}
use Rattle.fs_path.proofs.LeaseLaws.{none_through}
use Rattle.fs_server.specs.Server.{Stepped}
use Rattle.fs_server.specs.declared.event.ServerEvent.{ServerEvent}
use Rattle.fs_server.specs.declared.state.Server.{Server}
use Rattle.fs_serial.specs.Cluster.{Cluster, after_step}
use Rattle.fs_serial.specs.Paths.{IsTruePath, LeavesPaths, PathsHold, is_kept}
use Rattle.fs_serial.specs.Runs.{held_by}
use Rattle.fs_serial.proofs.Paths.Alike.{all_true, held_still, on_path, true_alike}

-- where no path that was given out goes over the file, it is on none
off_path : (s : Server) (f : List ℕ) (l : PathLease) → through f s.paths.issued ≡ None → In l s.paths.issued → In f l.path → ⊥
off_path s f l none i m =
    let over : goes_over f l ≡ true = In_any (λ g. same g f) l.path f m (same_self f) in
    let none_over = none_through f s.paths.issued none l i in
    let wrong : true ≡ false = sym over ∙ none_over in
    absurd (cc wrong)

pub others_true : (c : Cluster) (k : ℕ) (e : ServerEvent) (s : Server) (x : Stepped) → PathsHold c → slice_get c.servers k ≡ Some s
    → LeavesPaths k e s x c (after_step k e x c)
    → (t : Server) → In t (after_step k e x c).servers → (l : PathLease) → In l t.paths.issued
    → IsTruePath (held_by (after_step k e x c)) (after_step k e x c).journal t l
others_true c k e s x h at leaves =
    let there : In s c.servers = In-got c.servers k s at in
    all_true c k e x h leaves.up leaves.journal (λ l i. (let j : In l s.paths.issued = subst (In l) leaves.issued i in
    true_alike (held_by c) (held_by (after_step k e x c)) c.journal (after_step k e x c).journal s x.server l (λ f m. leaves.up f (on_path c s l f there j m)) leaves.journal
    (record {
      here = λ f m. leaves.here l f j m;
      held = λ files of p. held_still s x.server files leaves.held p;
      kept = λ f z. elim (leaves.kept f z) as (λ _. (is_kept s f ≡ true) ⊎ (In f l.path → ⊥)) [
        | inl was ↦ inl was
        | inr none ↦ inr (λ m. off_path s f l none j m)
      ];
    })
    (h.truth s there l j)))
