use Rattle.fs_field.proofs.Conflicts.{plain_are_all}
use Rattle.fs_rows.proofs.law.tables_are_without_conflict.Goals as goal

pub returns : goal.returns
returns c = λ selves rows t. plain_are_all selves rows t.off_modes t.free
