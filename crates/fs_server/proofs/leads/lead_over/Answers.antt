use Rattle.std.proofs.Common.{◌≡◌, ℕ, List, ap, sym, ◌∙◌, subst}
use Rattle.std.specs.Prelude.{IfOk}
use Rattle.fs_field.specs.declared.path.PathAnswer.{PathAnswer}
use Rattle.fs_txn.specs.declared.mode.Mode2.{Mode2}
use Rattle.fs_server.specs.Begins.{begins}
use Rattle.fs_server.specs.Decided.{stepped_by}
use Rattle.fs_server.specs.Leads.{leads_over, mode_over}
use Rattle.fs_server.specs.Server.{Stepped}
use Rattle.fs_server.specs.Step.{counter_over}
use Rattle.fs_server.proofs.leads.lead_over.Goals as goal

pub returns-in-Path-clause-step : goal.returns-in-Path-clause-step
returns-in-Path-clause-step c =
    subst (λ (y : Stepped). IfOk c.begin.result (λ d. stepped_by d c.args.at.now ≡ y))
    (ap (λ (k : Mode2). begins k c.args.by c.args.m.now c.args.at.now) (c.mode_over.ensures ∙ ap (λ (fs : List (List ℕ)). mode_over fs c.args.m.now.file) c.as_slice.ensures)
    ∙ sym (ap (λ (p : PathAnswer). leads_over p c.args.by c.args.m.now c.args.at.now) c.in-Path.is))
    c.begin.ensures.step

pub returns-in-Path-clause-spent : goal.returns-in-Path-clause-spent
returns-in-Path-clause-spent c counter h =
    ap (λ (y : Stepped). counter_over y.server)
    (ap (λ (p : PathAnswer). leads_over p c.args.by c.args.m.now c.args.at.now) c.in-Path.is
    ∙ ap (λ (k : Mode2). begins k c.args.by c.args.m.now c.args.at.now) (sym (c.mode_over.ensures ∙ ap (λ (fs : List (List ℕ)). mode_over fs c.args.m.now.file) c.as_slice.ensures)))
    ∙ c.begin.ensures.spent counter h
