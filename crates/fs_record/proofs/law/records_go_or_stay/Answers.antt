use Rattle.fs_record.proofs.Coming.{goes, stays}
use Rattle.fs_record.proofs.law.records_go_or_stay.Goals as goal

pub returns-clause-given : goal.returns-clause-given
returns-clause-given c = goes

pub returns-clause-left : goal.returns-clause-left
returns-clause-left c = stays
