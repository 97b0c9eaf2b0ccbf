use Rattle.fs_server.proofs.LeaderLaws.{told_once}
use Rattle.fs_server.proofs.leading_law.each_part_is_told_once.Goals as goal

pub returns : goal.returns
returns c = told_once
