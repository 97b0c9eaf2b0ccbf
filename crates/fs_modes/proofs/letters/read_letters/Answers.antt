use Rattle.std.proofs.Common.{arith}
use Rattle.std.proofs.lemmas.Grind.{common_steps}
use Rattle.fs_modes.proofs.letters.read_letters.Goals as goal

pub returns-in-R-clause-found : goal.returns-in-R-clause-found
returns-in-R-clause-found c = grind (arith, common_steps)

pub returns-in-W-clause-found : goal.returns-in-W-clause-found
returns-in-W-clause-found c = grind (arith, common_steps)

pub returns-in-D-clause-found : goal.returns-in-D-clause-found
returns-in-D-clause-found c = grind (arith, common_steps)

pub returns-in-RW-clause-found : goal.returns-in-RW-clause-found
returns-in-RW-clause-found c = grind (arith, common_steps)

pub returns-in-RD-clause-found : goal.returns-in-RD-clause-found
returns-in-RD-clause-found c = grind (arith, common_steps)

pub returns-in-WD-clause-found : goal.returns-in-WD-clause-found
returns-in-WD-clause-found c = grind (arith, common_steps)

pub returns-in-RWD-clause-found : goal.returns-in-RWD-clause-found
returns-in-RWD-clause-found c = grind (arith, common_steps)
