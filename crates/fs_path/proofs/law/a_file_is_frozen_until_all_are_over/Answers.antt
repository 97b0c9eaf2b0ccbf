use Rattle.fs_path.proofs.LeaseLaws.{freezes, thaws}
use Rattle.fs_path.proofs.law.a_file_is_frozen_until_all_are_over.Goals as goal

pub returns : goal.returns
returns c = record { frozen = freezes; own = thaws }
