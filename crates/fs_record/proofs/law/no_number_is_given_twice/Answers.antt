use Rattle.fs_record.proofs.NumbersKept.{numbers_differ}
use Rattle.fs_record.proofs.law.no_number_is_given_twice.Goals as goal

pub returns : goal.returns
returns c = numbers_differ
