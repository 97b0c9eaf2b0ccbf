use Rattle.fs_field.proofs.Order.{one_of_number}
use Rattle.fs_rows.proofs.law.numbers_tell_rows_apart.Goals as goal

pub returns : goal.returns
returns c = λ rows t. one_of_number rows t.ordered
