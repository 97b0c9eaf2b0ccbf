use Rattle.fs_server.proofs.Following.{votes_can, votes_so}
use Rattle.fs_server.specs.declared.decide.Decided.{Decided}
use Rattle.fs_server.proofs.follows.votes.Goals as goal

pub returns-clause-step : goal.returns-clause-step
returns-clause-step c =
    let d : Decided = record { change = c.in_ok-change.change; out = c.in_ok-out.out } in
    votes_so c.args.vote c.args.from c.args.m.now c.args.at.now d c.in_ok-change.ensures c.in_ok-out.ensures

pub returns-clause-can : goal.returns-clause-can
returns-clause-can c =
    let d : Decided = record { change = c.in_ok-change.change; out = c.in_ok-out.out } in
    votes_can c.args.vote c.args.m.now c.args.at.now d c.requires c.in_ok-change.ensures
