use Rattle.fs_server.proofs.PathAsking.{stops_can}
use Rattle.fs_server.proofs.path_grants.fail.Goals as goal

pub returns-clause-can : goal.returns-clause-can
returns-clause-can c = stops_can _ _ c.args.at.now c.requires
