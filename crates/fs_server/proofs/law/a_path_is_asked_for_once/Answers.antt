use Rattle.fs_server.proofs.LeadersAsk.{leader_asks_first}
use Rattle.fs_server.proofs.PathLaws.{asked_first, asked_once, ended_by_answer, ended_by_path, sent_on}
use Rattle.fs_server.proofs.law.a_path_is_asked_for_once.Goals as goal

pub returns-clause-first : goal.returns-clause-first
returns-clause-first c s from to file dir top up h = asked_first to from file dir top up s h

pub returns-clause-leads : goal.returns-clause-leads
returns-clause-leads c s by m to top up h = leader_asks_first to top up by m s h

pub returns-clause-one : goal.returns-clause-one
returns-clause-one c s file dir = asked_once file dir s

pub returns-clause-on : goal.returns-clause-on
returns-clause-on c s to file asked up w h = sent_on to file asked up s w h

pub returns-clause-comes : goal.returns-clause-comes
returns-clause-comes c s from number file path new = ended_by_path from number file path s new

pub returns-clause-ends : goal.returns-clause-ends
returns-clause-ends c s file w e = ended_by_answer s.me file file file s w e
