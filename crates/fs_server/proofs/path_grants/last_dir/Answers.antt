use Rattle.fs_server.proofs.PathAsking.{last_dir_at, no_last_dir}
use Rattle.fs_server.proofs.path_grants.last_dir.Goals as goal

pub returns-in_default : goal.returns-in_default
returns-in_default c = no_last_dir c.args.path.now c.in_default.len_below

pub returns-in-len2-up : goal.returns-in-len2-up
returns-in-len2-up c = last_dir_at c.args.path.now c.dir-item.result c.in-len2-up.len_at_least c.dir-item.is
