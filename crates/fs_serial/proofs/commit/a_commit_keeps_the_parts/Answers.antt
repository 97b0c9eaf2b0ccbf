use Rattle.fs_serial.proofs.LedOperations.Committed.{commit_is_relied, commit_keeps_parts}
use Rattle.fs_serial.proofs.commit.a_commit_keeps_the_parts.Goals as goal

pub returns-clause-parts : goal.returns-clause-parts
returns-clause-parts c = commit_keeps_parts

pub returns-clause-relied : goal.returns-clause-relied
returns-clause-relied c = commit_is_relied
