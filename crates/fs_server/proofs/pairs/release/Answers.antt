use Rattle.fs_server.proofs.Paired.{released_ready}
use Rattle.fs_server.proofs.pairs.release.Goals as goal

pub returns-clause-can : goal.returns-clause-can
returns-clause-can c = record { change = tt; ready = released_ready c.in_ok-numbers.numbers c.args.at.now c.requires }
