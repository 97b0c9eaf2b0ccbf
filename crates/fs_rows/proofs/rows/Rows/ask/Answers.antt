use Rattle.std.proofs.Common.{◌≡◌, false, ap, sym, subst, ◌∙◌}
use Rattle.std.specs.List.{list_any}
use Rattle.fs_field.specs.Table.{has_no}
use Rattle.fs_rows.specs.Table.{IsTable}
use Rattle.fs_rows.specs.Bounds.{AreBounds}
use Rattle.fs_rows.proofs.Knowing.{bounds_asked}
use Rattle.fs_rows.proofs.Kept.{asked_table, asked_least}
use Rattle.fs_rows.proofs.rows.Rows.ask.Goals as goal

pub invariant_of-self : goal.invariant_of-self
invariant_of-self c =
    let table : IsTable c.items_mut.result.now.items = subst IsTable (sym c.items_mut.ensures.value) c.self.invariant.0 in
    let new : list_any (has_no c.args.no) c.items_mut.result.now.items ≡ false = ap (list_any (has_no c.args.no)) (c.items_mut.ensures.value ∙ c.self.view_is) ∙ c.requires.new in
    let bounds : AreBounds c.self.inside.least c.self.inside.locked c.items_mut.result.now.items = subst (AreBounds c.self.inside.least c.self.inside.locked) (sym c.items_mut.ensures.value) c.self.invariant.1 in (
      asked_table c.ask.result _ _ _ _ _ _ _ new c.requires.off_modes table c.ask.ensures.answer c.ask.ensures.rows (c.ask.ensures.err),
      bounds_asked c.ask.result _ _ _ _ _ c.self.inside.least _ _ _ _ c.ask.ensures.rows c.ask.ensures.err c.lesser-self-inside.ensures.first c.lesser-self-inside.ensures.second bounds,
      c.ask.ensures.index,
    )

pub returns-clause-valid : goal.returns-clause-valid
returns-clause-valid c = (invariant_of-self c).0

pub returns-clause-least : goal.returns-clause-least
returns-clause-least c =
    let table : IsTable c.items_mut.result.now.items = subst IsTable (sym c.items_mut.ensures.value) c.self.invariant.0 in
    rw (← c.self.view_is, ← c.items_mut.ensures.value) (asked_least c.ask.result _ _ _ _ table c.ask.ensures.answer)
