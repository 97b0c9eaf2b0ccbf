use Rattle.fs_server.proofs.Freezing.{last_frees, others_kept, stay_kept}
use Rattle.fs_server.proofs.law.the_last_part_frees_the_files.Goals as goal

pub returns-clause-waits : goal.returns-clause-waits
returns-clause-waits c = stay_kept

pub returns-clause-last : goal.returns-clause-last
returns-clause-last c = last_frees

pub returns-clause-others : goal.returns-clause-others
returns-clause-others c = others_kept
