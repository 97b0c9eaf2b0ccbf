use Rattle.fs_path.proofs.LeaseLaws.{go_on, next_new, returned}
use Rattle.fs_path.proofs.law.each_number_is_given_once.Goals as goal

pub returns : goal.returns
returns c = record { new = next_new; kept = go_on; back = returned }
