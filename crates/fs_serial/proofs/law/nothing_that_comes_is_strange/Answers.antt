use Rattle.fs_serial.proofs.Transactions.ClientsStand.{answer_known}
use Rattle.fs_serial.proofs.WholeRuns.Strange.{none_strange}
use Rattle.fs_serial.proofs.law.nothing_that_comes_is_strange.Goals as goal

pub returns-clause-server : goal.returns-clause-server
returns-clause-server c = λ skew greatest now k e s c at before there w. none_strange skew greatest now k e s c at before there w.holds w.paths

pub returns-clause-client : goal.returns-clause-client
returns-clause-client c = λ skew greatest now from a by c can h. answer_known skew greatest c by h from a can now
