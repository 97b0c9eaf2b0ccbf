use Rattle.fs_serial.proofs.WholeRuns.ClusterRuns.{stands_later}
use Rattle.fs_serial.proofs.WholeRuns.ClusterSteps.{server_keeps}
use Rattle.fs_serial.proofs.law.the_servers_events_keep_all_parts.Goals as goal

pub returns-clause-event : goal.returns-clause-event
returns-clause-event c = server_keeps

pub returns-clause-rises : goal.returns-clause-rises
returns-clause-rises c = stands_later
