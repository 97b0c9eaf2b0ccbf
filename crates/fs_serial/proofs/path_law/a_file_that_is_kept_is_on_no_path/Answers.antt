use Rattle.fs_serial.proofs.Paths.Kept.{kept_is_on_none}
use Rattle.fs_serial.proofs.path_law.a_file_that_is_kept_is_on_no_path.Goals as goal

pub returns : goal.returns
returns c = kept_is_on_none
