use Rattle.std.proofs.Common.{◌≡◌, subst}
use Rattle.std.specs.Prelude.{IfOk}
use Rattle.fs_server.specs.Decided.{stepped_by}
use Rattle.fs_server.specs.Server.{Stepped}
use Rattle.fs_server.proofs.Counting.{counts_on, counts_so}
use Rattle.fs_server.proofs.counts.counts.Goals as goal

pub goes_on-requires-clause-can : goal.goes_on-requires-clause-can
goes_on-requires-clause-can c =
    counts_on c.args.number c.args.vote.now c.args.l.now c.in_ok-leading.leading c.args.at.now c.requires.whole c.in_ok-leading.ensures

pub returns-clause-step : goal.returns-clause-step
returns-clause-step c =
    subst (λ (y : Stepped). IfOk c.goes_on.result (λ d. stepped_by d c.args.at.now ≡ y))
    (counts_so c.args.number c.args.vote.now c.args.l.now c.in_ok-leading.leading _ _ _ c.args.at.now
    c.in_ok-leading.ensures c.new-uses.ensures c.new-files.ensures c.new.ensures)
    c.goes_on.ensures.step
