use Rattle.fs_server.proofs.PathAsking.{keeps_can}
use Rattle.fs_server.proofs.path_grants.keep.Goals as goal

pub returns-clause-can : goal.returns-clause-can
returns-clause-can c = keeps_can _ _ _ _ _ c.args.at.now c.requires
