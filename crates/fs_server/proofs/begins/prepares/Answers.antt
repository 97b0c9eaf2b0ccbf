use Rattle.std.proofs.Common.{◌≡◌, refl, ap, ◌∙◌, subst}
use Rattle.std.specs.Result.{IfOk}
use Rattle.fs_server.specs.Begins.{first_round, rounds}
use Rattle.fs_server.specs.Decided.{stepped_by}
use Rattle.fs_server.specs.Server.{Stepped}
use Rattle.fs_server.specs.declared.decide.Decided.{Decided}
use Rattle.fs_server.proofs.Beginning.{begun_can, begun_so}
use Rattle.fs_server.proofs.begins.prepares.Goals as goal

pub goes_on-requires-clause-can : goal.goes_on-requires-clause-can
goes_on-requires-clause-can c =
    begun_can c.args.mode c.args.by c.args.m.now c.args.at.now c.args.txn c.in_ok-gathered.gathered
    (record { leader = c.in_ok-leader.leader; at = c.in_ok-gathered.gathered.at }) c.requires.txn
    (c.in_ok-gathered.ensures ∙ ap (λ ps. rounds c.args.txn 0 c.args.by ps (first_round c.args.at.now))
    (c.as_slice.ensures ∙ c.in_ok-parts.ensures)) c.in_ok-leader.ensures refl

pub returns-clause-step : goal.returns-clause-step
returns-clause-step c =
    subst (λ (x : Stepped). IfOk c.goes_on.result (λ (d : Decided). stepped_by d c.args.at.now ≡ x))
    (begun_so c.args.mode c.args.by c.args.m.now c.args.at.now c.args.txn c.in_ok-gathered.gathered
    (record { leader = c.in_ok-leader.leader; at = c.in_ok-gathered.gathered.at }) c.requires.txn
    (c.in_ok-gathered.ensures ∙ ap (λ ps. rounds c.args.txn 0 c.args.by ps (first_round c.args.at.now))
    (c.as_slice.ensures ∙ c.in_ok-parts.ensures)) c.in_ok-leader.ensures refl)
    c.goes_on.ensures.step
