use Rattle.fs_field.proofs.Conflicts.{all_are_plain, plain_are_all}
use Rattle.fs_field.proofs.law.conflicts_off_modes_are_plain.Goals as goal

pub returns-clause-plain : goal.returns-clause-plain
returns-clause-plain c = all_are_plain

pub returns-clause-all : goal.returns-clause-all
returns-clause-all c = plain_are_all
