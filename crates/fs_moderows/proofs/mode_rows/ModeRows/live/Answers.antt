use Rattle.fs_moderows.proofs.Tables.{filtered_table}
use Rattle.fs_moderows.proofs.mode_rows.ModeRows.live.Goals as goal

pub returns-clause-valid : goal.returns-clause-valid
returns-clause-valid c = rw (c.through.ensures, c.as_slice.ensures) (filtered_table _ _ c.self.invariant.0)
