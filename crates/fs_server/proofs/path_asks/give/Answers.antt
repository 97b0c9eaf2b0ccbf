use Rattle.fs_server.proofs.PathAsking.{gives_can, gives_so}
use Rattle.fs_server.proofs.path_asks.give.Goals as goal

pub returns-clause-step : goal.returns-clause-step
returns-clause-step c =
    gives_so c.args.to c.args.file.now c.args.above c.args.no c.in_ok-file.file c.in_ok-out.out c.args.at.now c.requires.next c.in_ok-file.ensures c.in_ok-out.ensures

pub returns-clause-can : goal.returns-clause-can
returns-clause-can c = gives_can _ _ _ c.args.no _ c.args.at.now c.requires.next c.requires.ready
