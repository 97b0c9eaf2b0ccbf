use Rattle.fs_path.specs.Returns.{after_give_back}
use Rattle.fs_server.specs.declared.state.Server.{Server}
use Rattle.fs_server.proofs.Kept.{with_tables}
use Rattle.fs_server.proofs.path_returns.ask_back.Goals as goal

pub returns-clause-can : goal.returns-clause-can
returns-clause-can c =
    let s : Server = c.args.at.now in
    record { change = tt; ready = with_tables s (after_give_back s.map s.me c.in_ok-copy.field-0 s.paths) c.requires }
