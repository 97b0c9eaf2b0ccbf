use Rattle.std.proofs.Common.{not}
use Rattle.fs_rows.specs.Moving.{is_on_given}
use Rattle.fs_moderows.proofs.Free.{fewer_free}
use Rattle.fs_moderows.proofs.Moves.{came_free}
use Rattle.fs_moderows.proofs.Tables.{filtered_table}
use Rattle.fs_moderows.proofs.Witnesses.{covered_filter}
use Rattle.fs_moderows.proofs.law.moved_rows_are_safe.Goals as goal

pub returns-clause-came : goal.returns-clause-came
returns-clause-came c = came_free

pub returns-clause-gone : goal.returns-clause-gone
returns-clause-gone c selves rows prefix given t = fewer_free selves _ rows (covered_filter (λ r. not (is_on_given prefix given r)) rows) (filtered_table (λ r. not (is_on_given prefix given r)) rows t).on_modes
