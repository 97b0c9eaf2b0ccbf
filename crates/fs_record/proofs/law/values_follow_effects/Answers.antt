use Rattle.fs_record.proofs.ValueChanges.{value_follows, stays_without_target}
use Rattle.fs_record.proofs.law.values_follow_effects.Goals as goal

pub returns-clause-follows : goal.returns-clause-follows
returns-clause-follows c = value_follows

pub returns-clause-stays : goal.returns-clause-stays
returns-clause-stays c = stays_without_target
