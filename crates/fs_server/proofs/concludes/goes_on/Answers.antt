use Rattle.std.proofs.Common.{◌≡◌, sym, ◌∙◌, subst}
use Rattle.std.specs.Prelude.{IfOk}
use Rattle.fs_server.specs.Concludes.{path_for}
use Rattle.fs_server.specs.Decided.{stepped_by}
use Rattle.fs_server.specs.Gathered.{keeping}
use Rattle.fs_server.specs.Server.{Stepped}
use Rattle.fs_server.proofs.Concluding.{goes_full, goes_waiting, waits_can, waits_so}
use Rattle.fs_server.proofs.concludes.goes_on.Goals as goal

pub returns-then-is_full-clause-step : goal.returns-then-is_full-clause-step
returns-then-is_full-clause-step c =
    subst (λ (y : Stepped). IfOk c.concludes.result (λ d. stepped_by d c.args.at.now ≡ y))
    (goes_full c.args.note c.args.leading (path_for c.args.leading.leader.mode c.args.leading.leader.op c.args.at.now) c.args.send (keeping c.args.begins c.args.leading.leader.txn c.args.uses c.args.files c.args.at.now) (sym c.is_full.ensures ∙ c.if-is_full.true))
    c.concludes.ensures.step

pub returns-else-is_full-clause-step : goal.returns-else-is_full-clause-step
returns-else-is_full-clause-step c =
    waits_so c.args.begins c.args.note c.args.leading c.args.uses c.args.files c.args.send c.args.at.now c.waits.result c.waits.ensures
    ∙ goes_waiting c.args.note c.args.leading (path_for c.args.leading.leader.mode c.args.leading.leader.op c.args.at.now) c.args.send (keeping c.args.begins c.args.leading.leader.txn c.args.uses c.args.files c.args.at.now) (sym c.is_full.ensures ∙ c.if-is_full.false)

pub returns-else-is_full-clause-can : goal.returns-else-is_full-clause-can
returns-else-is_full-clause-can c =
    waits_can c.args.begins c.args.note c.args.leading c.args.uses c.args.files c.args.send c.args.at.now c.waits.result c.requires.ready (c.requires.can.uses, c.requires.can.whole)
    c.requires.can.few c.waits.ensures
