use Rattle.std.proofs.Common.{◌≡◌, true, sym, subst, ◌∙◌}
use Rattle.fs_record.specs.declared.parcel.Parcel.{Parcel}
use Rattle.fs_server.specs.declared.change.Change.TheVariants.{Install}
use Rattle.fs_server.specs.declared.state.Server.{Server}
use Rattle.fs_server.specs.Grants.{IsReady}
use Rattle.fs_server.specs.Moves.{fits_here}
use Rattle.fs_server.specs.Plan.{CanChange, changed}
use Rattle.fs_server.proofs.Moving.{installable, installed_ready}
use Rattle.fs_server.proofs.moves.installs.Goals as goal

pub returns-clause-can : goal.returns-clause-can
returns-clause-can c =
    let s : Server = c.args.at.now in
    let p : Parcel = c.args.p.now in
    let fit : fits_here p s ≡ true = sym c.in_ok-fits_here.ensures ∙ c.if-not-branch.false in
    record {
      change = subst (λ x. CanChange (Install x) s) (sym c.in_ok-copy.ensures) (installable p s fit c.requires.told);
      ready = subst (λ x. IsReady (changed (Install x) s)) (sym c.in_ok-copy.ensures) (installed_ready p s fit c.requires.ready);
    }
