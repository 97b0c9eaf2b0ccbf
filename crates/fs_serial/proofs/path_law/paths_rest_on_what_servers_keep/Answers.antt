use Rattle.fs_serial.proofs.Paths.Standing.{paths_stand}
use Rattle.fs_serial.proofs.path_law.paths_rest_on_what_servers_keep.Goals as goal

pub returns : goal.returns
returns c = paths_stand
