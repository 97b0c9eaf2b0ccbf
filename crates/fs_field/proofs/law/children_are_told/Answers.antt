use Rattle.fs_field.proofs.Below.{told, only}
use Rattle.fs_field.proofs.law.children_are_told.Goals as goal

pub returns-clause-told : goal.returns-clause-told
returns-clause-told c = told

pub returns-clause-only : goal.returns-clause-only
returns-clause-only c = only
