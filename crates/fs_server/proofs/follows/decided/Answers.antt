use Rattle.fs_server.proofs.Following.{decided_can, decided_so}
use Rattle.fs_server.specs.declared.decide.Decided.{Decided}
use Rattle.fs_server.proofs.follows.decided.Goals as goal

pub returns-clause-step : goal.returns-clause-step
returns-clause-step c =
    let d : Decided = record { change = c.in_ok-change.change; out = c.in_ok-out.out } in
    decided_so c.args.from c.args.m.now c.args.at.now d c.in_ok-change.ensures c.in_ok-out.ensures

pub returns-clause-can : goal.returns-clause-can
returns-clause-can c =
    let d : Decided = record { change = c.in_ok-change.change; out = c.in_ok-out.out } in
    decided_can c.args.m.now c.args.at.now d c.requires c.in_ok-change.ensures
