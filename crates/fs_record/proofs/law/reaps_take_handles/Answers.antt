use Rattle.fs_record.proofs.Reaping.{reaped_nodes, reaped_selves}
use Rattle.fs_record.proofs.law.reaps_take_handles.Goals as goal

pub returns-clause-nodes : goal.returns-clause-nodes
returns-clause-nodes c = λ m by session file. reaped_nodes session m by file

pub returns-clause-selves : goal.returns-clause-selves
returns-clause-selves c = λ m session file id own. reaped_selves session m file id own
