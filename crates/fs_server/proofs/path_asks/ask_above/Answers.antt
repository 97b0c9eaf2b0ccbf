use Rattle.fs_server.proofs.PathAsking.{asks_can}
use Rattle.fs_server.proofs.path_asks.ask_above.Goals as goal

pub returns-clause-can : goal.returns-clause-can
returns-clause-can c = asks_can _ _ c.args.at.now c.requires
