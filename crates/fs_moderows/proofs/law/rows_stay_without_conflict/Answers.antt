use Rattle.std.proofs.Common.{not}
use Rattle.fs_field.specs.Table.{has_no, is_live, renewed_row, locked_row, unlocked_row}
use Rattle.fs_moderows.proofs.Free.{fewer_free}
use Rattle.fs_moderows.proofs.Tables.{filtered_table, mapped_table, renewed_tells, locked_tells, unlocked_tells}
use Rattle.fs_moderows.proofs.Witnesses.{covered_filter, covered_map}
use Rattle.fs_moderows.proofs.law.rows_stay_without_conflict.Goals as goal

pub returns-clause-released : goal.returns-clause-released
returns-clause-released c selves rows number t = fewer_free selves _ rows (covered_filter (λ r. not (has_no number r)) rows) (filtered_table (λ r. not (has_no number r)) rows t).on_modes

pub returns-clause-lapsed : goal.returns-clause-lapsed
returns-clause-lapsed c selves rows now skew t = fewer_free selves _ rows (covered_filter (is_live now skew) rows) (filtered_table (is_live now skew) rows t).on_modes

pub returns-clause-renewed : goal.returns-clause-renewed
returns-clause-renewed c selves rows number until t = fewer_free selves _ rows (covered_map (renewed_row number until) (renewed_tells number until) rows) (mapped_table (renewed_row number until) (renewed_tells number until) rows t).on_modes

pub returns-clause-locked : goal.returns-clause-locked
returns-clause-locked c selves rows number txn t = fewer_free selves _ rows (covered_map (locked_row number txn) (locked_tells number txn) rows) (mapped_table (locked_row number txn) (locked_tells number txn) rows t).on_modes

pub returns-clause-unlocked : goal.returns-clause-unlocked
returns-clause-unlocked c selves rows txn t = fewer_free selves _ rows (covered_map (unlocked_row txn) (unlocked_tells txn) rows) (mapped_table (unlocked_row txn) (unlocked_tells txn) rows t).on_modes
