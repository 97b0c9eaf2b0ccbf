-- That the laws of servers and their clients hold.
use Rattle.std.proofs.Common.{arith}
use Rattle.fs_serial.proofs.Transactions.ClientsStand.{answer_known}
use Rattle.fs_serial.proofs.WholeRuns.ClusterRuns.{client_keeps_all, first_all, stands_later}
use Rattle.fs_serial.proofs.WholeRuns.ClusterSteps.{server_keeps}
use Rattle.fs_serial.proofs.WholeRuns.EndedClients.{client_keeps_fair}
use Rattle.fs_serial.proofs.WholeRuns.EndedEvents.{server_keeps_fair}
use Rattle.fs_serial.proofs.WholeRuns.EndedRuns.{first_fair, server_fair}
use Rattle.fs_serial.proofs.WholeRuns.FairRefusals.{fair}
use Rattle.fs_serial.proofs.WholeRuns.Strange.{none_strange}
use Rattle.fs_world.proofs.SerialLaws.{SerialLaws}

pub serial_laws : SerialLaws
serial_laws = record {
  event = server_keeps;
  rises = stands_later;
  client = client_keeps_all;
  server_plain = λ skew greatest now k e s c at clock there w.
      none_strange skew greatest now k e s c at clock there w.holds w.paths;
  client_plain = λ skew greatest now from a by c can h. answer_known skew greatest c by h from a can now;
  first = first_all;
  fair = fair;
  fair_event = λ skew greatest now k e s c at clock within there h f. server_fair skew greatest now k e s c at clock
      (omega (arith, within)) there h f;
  fair_note = λ skew greatest now k e s c at clock within there h f.
      (server_keeps_fair skew greatest now k e s c at clock (omega (arith, within)) there h f).1;
  fair_client = λ skew greatest now c by h f e can. client_keeps_fair skew greatest now c by h f e can;
  fair_first = first_fair;
}
