use Rattle.fs_server.proofs.Counting.{seeks_can, seeks_so}
use Rattle.fs_server.proofs.counts.seeks.Goals as goal

pub returns-clause-step : goal.returns-clause-step
returns-clause-step c =
    seeks_so c.args.number c.args.to c.args.part.now c.args.l.now c.args.at.now c.in_ok-leading.leading _ _ c.in_ok-send.send
    c.waits.result c.in_ok-leading.ensures c.new-uses.ensures c.new-files.ensures c.in_ok-send.ensures c.waits.ensures

pub returns-clause-can : goal.returns-clause-can
returns-clause-can c =
    seeks_can c.args.number c.args.to c.args.part.now c.args.l.now c.args.at.now c.in_ok-leading.leading _ _ c.in_ok-send.send
    c.waits.result c.requires.ready c.requires.whole c.in_ok-leading.ensures c.waits.ensures
