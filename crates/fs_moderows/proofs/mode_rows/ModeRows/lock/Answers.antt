use Rattle.fs_rows.proofs.Knowing.{bounds_locked}
use Rattle.fs_moderows.proofs.Tables.{locked_table, locked_tells}
use Rattle.fs_field.specs.Table.{locked_row}
use Rattle.fs_moderows.proofs.Tied.{rows_changed}
use Rattle.fs_moderows.proofs.mode_rows.ModeRows.lock.Goals as goal

pub returns-clause-valid : goal.returns-clause-valid
returns-clause-valid c = rw (c.lock.ensures.rows, c.items_mut.ensures.value) (locked_table _ _ _ c.self.invariant.0)

pub invariant_of-self : goal.invariant_of-self
invariant_of-self c = (returns-clause-valid c, rw (c.lock.ensures.rows, c.items_mut.ensures.value) (bounds_locked _ _ _ _ _ c.self.invariant.1), rw (c.lock.ensures.rows, c.items_mut.ensures.value) (rows_changed _ (locked_row c.args.no c.args.txn) (λ r. (locked_tells c.args.no c.args.txn r).number) (λ r. (locked_tells c.args.no c.args.txn r).field) _ c.self.invariant.2))
