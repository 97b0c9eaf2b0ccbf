use Rattle.std.proofs.Common.{sym, ◌∙◌}
use Rattle.fs_field.proofs.Leases.{none_renewed}
use Rattle.fs_rows.proofs.Knowing.{bounds_renewed}
use Rattle.fs_moderows.proofs.Tables.{renewed_table, renewed_tells}
use Rattle.fs_field.specs.Table.{renewed_row}
use Rattle.fs_moderows.proofs.Tied.{rows_changed}
use Rattle.fs_moderows.proofs.mode_rows.ModeRows.renew.Goals.{then-renew, else-renew}
use Rattle.fs_moderows.proofs.mode_rows.ModeRows.renew.Goals as goal

pub returns-clause-valid : goal.returns-clause-valid
returns-clause-valid c = rw (c.renew.ensures.rows, c.items_mut.ensures.value) (renewed_table _ _ _ c.self.invariant.0)

pub invariant_of-self : goal.invariant_of-self
invariant_of-self c = (returns-clause-valid c, rw (c.renew.ensures.rows, c.items_mut.ensures.value) (bounds_renewed _ _ _ _ _ c.self.invariant.1), rw (c.renew.ensures.rows, c.items_mut.ensures.value) (rows_changed _ (renewed_row c.args.no c.args.until) (λ r. (renewed_tells c.args.no c.args.until r).number) (λ r. (renewed_tells c.args.no c.args.until r).field) _ c.self.invariant.2))

pub returns-clause-err : goal.returns-clause-err
returns-clause-err c = elim c.if-renew.branch [
  | then-renew w ↦ rw w.result-is tt
  | else-renew w ↦ rw w.result-is (c.renew.ensures.rows ∙ none_renewed _ _ _ (sym c.renew.ensures.found ∙ w.if-renew.false) ∙ c.items_mut.ensures.value ∙ c.self.view_is)
]
