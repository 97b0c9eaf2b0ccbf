use Rattle.fs_path.specs.Returns.{after_recalled}
use Rattle.fs_server.specs.declared.state.Server.{Server}
use Rattle.fs_server.proofs.Kept.{with_tables}
use Rattle.fs_server.proofs.path_returns.path_recall.Goals as goal

pub returns-clause-can : goal.returns-clause-can
returns-clause-can c =
    let s : Server = c.args.at.now in
    record { change = tt; ready = with_tables s (after_recalled c.args.no s.paths) c.requires }
