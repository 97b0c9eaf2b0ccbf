use Rattle.fs_serial.proofs.Paths.Taken.{taken_is_true}
use Rattle.fs_serial.proofs.Paths.OnChains.{taken_tells_cycles}
use Rattle.fs_serial.proofs.path_law.a_path_that_is_taken_is_true.Goals as goal

pub returns-clause-chain : goal.returns-clause-chain
returns-clause-chain c = taken_is_true

pub returns-clause-cycles : goal.returns-clause-cycles
returns-clause-cycles c = taken_tells_cycles
