use Rattle.fs_rows.proofs.Knowing.{bounds_filter}
use Rattle.fs_moderows.proofs.Tables.{filtered_table}
use Rattle.fs_moderows.proofs.mode_rows.ModeRows.split.Goals as goal

pub returns-clause-valid : goal.returns-clause-valid
returns-clause-valid c = rw (c.drop_given.ensures, c.items_mut.ensures.value) (filtered_table _ _ c.self.invariant.0)

pub invariant_of-self : goal.invariant_of-self
invariant_of-self c = (returns-clause-valid c, rw (c.drop_given.ensures, c.items_mut.ensures.value) (bounds_filter _ _ _ _ c.self.invariant.1), rw (c.drop_given.ensures, c.items_mut.ensures.value) (rw c.as_slice-2.ensures at c.forget_given.ensures))
