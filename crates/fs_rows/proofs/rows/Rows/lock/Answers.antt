use Rattle.fs_field.specs.Table.{locked_row}
use Rattle.fs_field.proofs.Leases.{locked_same}
use Rattle.fs_rows.proofs.Tied.{rows_changed}
use Rattle.fs_rows.proofs.Knowing.{bounds_locked}
use Rattle.fs_rows.proofs.Kept.{locked_table}
use Rattle.fs_rows.proofs.rows.Rows.lock.Goals as goal

pub invariant_of-self : goal.invariant_of-self
invariant_of-self c = (rw (c.lock.ensures.rows, c.items_mut.ensures.value) (locked_table _ _ _ c.self.invariant.0), rw (c.lock.ensures.rows, c.items_mut.ensures.value) (bounds_locked _ _ _ _ _ c.self.invariant.1), rw (c.lock.ensures.rows, c.items_mut.ensures.value) (rows_changed _ (locked_row c.args.no c.args.txn) (locked_same c.args.no c.args.txn) _ c.self.invariant.2))

pub returns-clause-valid : goal.returns-clause-valid
returns-clause-valid c = rw (c.lock.ensures.rows, c.items_mut.ensures.value) (locked_table _ _ _ c.self.invariant.0)
