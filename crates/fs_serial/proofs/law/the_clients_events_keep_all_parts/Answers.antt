use Rattle.fs_serial.proofs.WholeRuns.ClusterRuns.{client_keeps_all}
use Rattle.fs_serial.proofs.law.the_clients_events_keep_all_parts.Goals as goal

pub returns : goal.returns
returns c = client_keeps_all
