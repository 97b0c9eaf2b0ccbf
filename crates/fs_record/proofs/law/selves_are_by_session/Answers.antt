use Rattle.fs_record.proofs.BySession.{selves_told, selves_rise}
use Rattle.fs_record.proofs.law.selves_are_by_session.Goals as goal

pub returns-clause-told : goal.returns-clause-told
returns-clause-told c = selves_told

pub returns-clause-rising : goal.returns-clause-rising
returns-clause-rising c = selves_rise
