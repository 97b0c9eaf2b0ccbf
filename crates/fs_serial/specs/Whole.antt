-- All that holds in every cluster that a run reaches.
use Rattle.std.specs.Prelude.{ℕ}
use Rattle.fs_serial.specs.Cluster.{Cluster}
use Rattle.fs_serial.specs.KeptFiles.{FilesKept}
use Rattle.fs_serial.specs.Paths.{PathsHold}
use Rattle.fs_serial.specs.Seen.{ClusterHolds}

-- where no reading was greater
pub record ClusterStands (skew greatest : ℕ) (c : Cluster) : Type 0 where
  -- of servers, sessions, and transactions
  pub holds : ClusterHolds skew greatest c
  -- of paths
  pub paths : PathsHold c
  -- of the files that transactions have servers keep
  pub kept : FilesKept c
