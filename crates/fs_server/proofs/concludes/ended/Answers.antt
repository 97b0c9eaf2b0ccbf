use Rattle.std.proofs.Common.{ap, ap₂, ◌∙◌}
use Rattle.fs_server.specs.Gathered.{told_by}
use Rattle.fs_server.specs.declared.change.Change.TheVariants as change
use Rattle.fs_server.specs.declared.change.Then.{Then}
use Rattle.fs_server.specs.declared.decide.Decided.{Decided}
use Rattle.fs_server.specs.declared.out.ServerOut.{ServerOut}
use Rattle.fs_server.proofs.concludes.ended.Goals as goal

pub returns : goal.returns
returns c =
    ap₂ (λ (o : ServerOut) (t : Then). let d : Decided = record { change = change.Lead c.args.begins c.args.leading.leader.txn c.args.uses c.args.files t; out = o } in d)
    (c.in_ok-out.ensures ∙ ap (λ ys. told_by c.args.decision ys c.args.leading.leader c.args.send) c.as_slice.ensures)
    c.in_ok-rest.ensures
