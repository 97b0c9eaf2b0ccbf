use Rattle.std.proofs.Common.{◌≡◌, false, ap, sym, subst, ◌∙◌}
use Rattle.std.specs.List.{list_any}
use Rattle.fs_field.specs.Table.{has_no}
use Rattle.fs_rows.specs.Bounds.{AreBounds}
use Rattle.fs_moderows.specs.Table.{IsModeTable}
use Rattle.fs_moderows.proofs.Bounded.{bounds_asked}
use Rattle.fs_moderows.proofs.Tables.{asked_table, self_table, self_least}
use Rattle.fs_moderows.proofs.mode_rows.ModeRows.ask_self.Goals as goal

pub invariant_of-self : goal.invariant_of-self
invariant_of-self c =
    let table : IsModeTable c.items_mut.result.now.items = subst IsModeTable (sym c.items_mut.ensures.value) c.self.invariant.0 in
    let new : list_any (has_no c.args.no) c.items_mut.result.now.items ≡ false = ap (list_any (has_no c.args.no)) (c.items_mut.ensures.value ∙ c.self.view_is) ∙ c.requires.new in
    let bounds : AreBounds c.self.inside.least c.self.inside.locked c.items_mut.result.now.items = subst (AreBounds c.self.inside.least c.self.inside.locked) (sym c.items_mut.ensures.value) c.self.invariant.1 in (
      asked_table c.ask_self.result _ _ _ _ table (self_table _ _ _ _ _ _ _ new table) c.ask_self.ensures.answer c.ask_self.ensures.rows c.ask_self.ensures.err,
      bounds_asked c.ask_self.result _ _ _ _ _ c.self.inside.least _ _ _ _ c.ask_self.ensures.rows c.ask_self.ensures.err c.lesser-self-inside.ensures.first c.lesser-self-inside.ensures.second bounds,
      c.ask_self.ensures.index,
    )

pub returns-clause-valid : goal.returns-clause-valid
returns-clause-valid c = (invariant_of-self c).0

pub returns-clause-least : goal.returns-clause-least
returns-clause-least c =
    let table : IsModeTable c.items_mut.result.now.items = subst IsModeTable (sym c.items_mut.ensures.value) c.self.invariant.0 in
    rw (← c.self.view_is, ← c.items_mut.ensures.value, ← c.as_slice.ensures) (self_least c.ask_self.result _ _ _ _ _ table c.ask_self.ensures.answer)
