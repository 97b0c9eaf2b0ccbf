use Rattle.fs_path.proofs.LeaseLaws.{goes, stays}
use Rattle.fs_path.proofs.law.what_goes_back_is_on_no_path.Goals as goal

pub returns : goal.returns
returns c = record { goes = goes; stays = stays }
