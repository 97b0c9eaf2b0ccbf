use Rattle.fs_server.proofs.InOrder.{comes_behind}
use Rattle.fs_server.proofs.law.an_identifier_comes_behind_all_items.Goals as goal

pub returns : goal.returns
returns c = comes_behind
