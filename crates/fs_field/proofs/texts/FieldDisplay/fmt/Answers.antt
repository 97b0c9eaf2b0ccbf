use Rattle.std.proofs.Common.{rules}
use Rattle.fs_field.proofs.texts.FieldDisplay.fmt.Goals as goal

pub returns-in-Life-clause-writes : goal.returns-in-Life-clause-writes
returns-in-Life-clause-writes g c = search rules

pub returns-in-Child-clause-writes : goal.returns-in-Child-clause-writes
returns-in-Child-clause-writes g c = search rules

pub returns-in-Names-clause-writes : goal.returns-in-Names-clause-writes
returns-in-Names-clause-writes g c = search rules

pub returns-in-Info-clause-writes : goal.returns-in-Info-clause-writes
returns-in-Info-clause-writes g c = search rules

pub returns-in-Own-clause-writes : goal.returns-in-Own-clause-writes
returns-in-Own-clause-writes g c = search rules

pub returns-in-SelfW-clause-writes : goal.returns-in-SelfW-clause-writes
returns-in-SelfW-clause-writes g c = search rules

pub returns-in-Other-clause-writes : goal.returns-in-Other-clause-writes
returns-in-Other-clause-writes g c = search rules
