use Rattle.fs_path.specs.Returns.{after_released}
use Rattle.fs_server.specs.declared.state.Server.{Server}
use Rattle.fs_server.proofs.Kept.{with_tables}
use Rattle.fs_server.proofs.path_returns.path_back.Goals as goal

pub returns-clause-can : goal.returns-clause-can
returns-clause-can c =
    let s : Server = c.args.at.now in
    record { change = tt; ready = with_tables s (after_released c.args.no s.paths) c.requires }
