use Rattle.fs_server.proofs.Keeping.{begun_keeps, counted_keeps}
use Rattle.fs_server.proofs.leading_law.an_own_yes_keeps_its_file.Goals as goal

pub returns-clause-begins : goal.returns-clause-begins
returns-clause-begins c = begun_keeps

pub returns-clause-counts : goal.returns-clause-counts
returns-clause-counts c = counted_keeps
