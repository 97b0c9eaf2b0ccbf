use Rattle.fs_field.proofs.Named.{named, others}
use Rattle.fs_field.proofs.law.names_follow_children.Goals as goal

pub returns-clause-named : goal.returns-clause-named
returns-clause-named c = named

pub returns-clause-others : goal.returns-clause-others
returns-clause-others c = others
