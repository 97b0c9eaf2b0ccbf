use Rattle.fs_server.proofs.Paired.{renewed_ready}
use Rattle.fs_server.proofs.pairs.renew.Goals as goal

pub returns-clause-can : goal.returns-clause-can
returns-clause-can c = record { change = tt; ready = renewed_ready c.end-until.result c.in_ok-numbers.numbers c.args.at.now c.requires }
