use Rattle.fs_rows.proofs.Comes.{came_table}
use Rattle.fs_rows.proofs.Kept.{filtered_table}
use Rattle.fs_rows.proofs.law.rows_that_move_leave_tables.Goals as goal

pub returns-clause-came : goal.returns-clause-came
returns-clause-came c = came_table

pub returns-clause-gone : goal.returns-clause-gone
returns-clause-gone c = λ prefix given rows t. filtered_table _ rows t
