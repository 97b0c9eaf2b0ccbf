use Rattle.fs_moderows.proofs.Tables.{unlocked_table, unlocked_tells}
use Rattle.fs_field.specs.Table.{unlocked_row}
use Rattle.fs_moderows.proofs.Tied.{rows_changed}
use Rattle.fs_moderows.proofs.mode_rows.ModeRows.unlock.Goals as goal

pub returns-clause-valid : goal.returns-clause-valid
returns-clause-valid c = rw (c.unlock_known.ensures.rows, c.items_mut.ensures.value) (unlocked_table _ _ c.self.invariant.0)

pub invariant_of-self : goal.invariant_of-self
invariant_of-self c = (returns-clause-valid c, record { ends = c.unlock_known.ensures.ends; locks = c.unlock_known.ensures.locks }, rw (c.unlock_known.ensures.rows, c.items_mut.ensures.value) (rows_changed _ (unlocked_row c.args.txn) (λ r. (unlocked_tells c.args.txn r).number) (λ r. (unlocked_tells c.args.txn r).field) _ c.self.invariant.2))
