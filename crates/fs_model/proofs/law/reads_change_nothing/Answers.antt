use Rattle.std.specs.FinMap.{get}
use Rattle.fs_model.proofs.SoundRuns.{step_reads, same_rename}
use Rattle.fs_model.proofs.law.reads_change_nothing.Goals as goal

pub returns-clause-reads : goal.returns-clause-reads
returns-clause-reads c = step_reads

pub returns-clause-same_place : goal.returns-clause-same_place
returns-clause-same_place c = λ m by dir name. same_rename m dir name (get m dir)
