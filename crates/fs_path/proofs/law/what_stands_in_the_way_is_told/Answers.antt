use Rattle.fs_path.proofs.LeaseLaws.{none_into, none_through}
use Rattle.fs_path.proofs.law.what_stands_in_the_way_is_told.Goals as goal

pub returns : goal.returns
returns c = record { freeze = none_through; goes = none_into }
