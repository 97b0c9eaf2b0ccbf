use Rattle.std.proofs.Common.{not}
use Rattle.fs_field.specs.Table.{has_no, is_live, renewed_row, locked_row, unlocked_row}
use Rattle.fs_moderows.proofs.Promises.{fewer_kept}
use Rattle.fs_moderows.proofs.Tables.{renewed_tells, locked_tells, unlocked_tells}
use Rattle.fs_moderows.proofs.Witnesses.{covered_filter, covered_map}
use Rattle.fs_moderows.proofs.law.promises_stay_kept.Goals as goal

pub returns-clause-released : goal.returns-clause-released
returns-clause-released c selves rows number = fewer_kept selves _ rows (covered_filter (λ r. not (has_no number r)) rows)

pub returns-clause-lapsed : goal.returns-clause-lapsed
returns-clause-lapsed c selves rows now skew = fewer_kept selves _ rows (covered_filter (is_live now skew) rows)

pub returns-clause-renewed : goal.returns-clause-renewed
returns-clause-renewed c selves rows number until = fewer_kept selves _ rows (covered_map (renewed_row number until) (renewed_tells number until) rows)

pub returns-clause-locked : goal.returns-clause-locked
returns-clause-locked c selves rows number txn = fewer_kept selves _ rows (covered_map (locked_row number txn) (locked_tells number txn) rows)

pub returns-clause-unlocked : goal.returns-clause-unlocked
returns-clause-unlocked c selves rows txn = fewer_kept selves _ rows (covered_map (unlocked_row txn) (unlocked_tells txn) rows)
