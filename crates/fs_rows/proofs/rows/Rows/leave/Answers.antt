use Rattle.fs_rows.proofs.Knowing.{bounds_filter}
use Rattle.fs_rows.proofs.Kept.{filtered_table}
use Rattle.fs_rows.proofs.rows.Rows.leave.Goals as goal

pub invariant_of-self : goal.invariant_of-self
invariant_of-self c = (rw (c.drop_given.ensures, c.items_mut.ensures.value) (filtered_table _ _ c.self.invariant.0), rw (c.drop_given.ensures, c.items_mut.ensures.value) (bounds_filter _ _ _ _ c.self.invariant.1), rw (c.drop_given.ensures, c.items_mut.ensures.value) (rw c.as_slice.ensures at c.forget_given.ensures))

pub returns-clause-valid : goal.returns-clause-valid
returns-clause-valid c = rw (c.drop_given.ensures, c.items_mut.ensures.value) (filtered_table _ _ c.self.invariant.0)
