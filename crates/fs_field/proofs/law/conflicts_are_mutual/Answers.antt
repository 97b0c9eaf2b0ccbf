use Rattle.fs_field.proofs.Conflicts.{conflicts_mutual}
use Rattle.fs_field.proofs.law.conflicts_are_mutual.Goals as goal

pub returns : goal.returns
returns c = conflicts_mutual
