use Rattle.fs_serial.proofs.WholeRuns.EndedClients.{client_keeps_fair}
use Rattle.fs_serial.proofs.WholeRuns.EndedRuns.{all_fair, first_fair, heard_fair, noted_fair, run_fair, server_fair}
use Rattle.fs_serial.proofs.law.what_is_led_ends_fairly.Goals as goal

pub returns-clause-server : goal.returns-clause-server
returns-clause-server c = server_fair

pub returns-clause-client : goal.returns-clause-client
returns-clause-client c = client_keeps_fair

pub returns-clause-first : goal.returns-clause-first
returns-clause-first c = first_fair

pub returns-clause-run : goal.returns-clause-run
returns-clause-run c = run_fair

pub returns-clause-always : goal.returns-clause-always
returns-clause-always c = all_fair

pub returns-clause-noted : goal.returns-clause-noted
returns-clause-noted c = noted_fair

pub returns-clause-heard : goal.returns-clause-heard
returns-clause-heard c = heard_fair
