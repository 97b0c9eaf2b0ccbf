use Rattle.std.proofs.Common.{not}
use Rattle.fs_rows.specs.Moving.{is_on_given}
use Rattle.fs_parcel.proofs.Both.{filtered_rows}
use Rattle.fs_parcel.proofs.Formed.{fitting}
use Rattle.fs_parcel.proofs.Installed.{all_rows}
use Rattle.fs_parcel.proofs.law.moved_rows_are_in_order.Goals as goal

pub returns-clause-came : goal.returns-clause-came
returns-clause-came c = λ records rows map me p t h. all_rows records rows map me p (fitting records rows map me p h) t

pub returns-clause-gone : goal.returns-clause-gone
returns-clause-gone c = λ rows prefix given t. filtered_rows (λ r. not (is_on_given prefix given r)) rows t
