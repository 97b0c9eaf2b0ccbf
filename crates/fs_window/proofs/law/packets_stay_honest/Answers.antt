use Rattle.fs_window.proofs.Carried.{packet_pushed, packet_sent, packet_told, packet_back, packet_other_pushed, packet_other_sent}
use Rattle.fs_window.proofs.OneStep.{made_packet}
use Rattle.fs_window.proofs.law.packets_stay_honest.Goals as goal

pub returns-clause-made : goal.returns-clause-made
returns-clause-made c = made_packet

pub returns-clause-push : goal.returns-clause-push
returns-clause-push c = packet_pushed

pub returns-clause-due : goal.returns-clause-due
returns-clause-due c = packet_sent

pub returns-clause-tell : goal.returns-clause-tell
returns-clause-tell c = packet_told

pub returns-clause-back : goal.returns-clause-back
returns-clause-back c = packet_back

pub returns-clause-other_push : goal.returns-clause-other_push
returns-clause-other_push c = packet_other_pushed

pub returns-clause-other_due : goal.returns-clause-other_due
returns-clause-other_due c = packet_other_sent
