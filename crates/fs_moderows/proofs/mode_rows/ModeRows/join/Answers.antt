use Rattle.std.proofs.Common.{◌≡◌, ◌||◌, List, true, ap, sym, subst, ◌∙◌}
use Rattle.std.specs.Prelude.{is_some}
use Rattle.std.specs.List.{list_any}
use Rattle.fs_field.specs.declared.row.Row.{Row}
use Rattle.fs_rows.specs.Bounds.{AreBounds, EndNoSooner}
use Rattle.fs_rows.specs.Moving.{are_new}
use Rattle.fs_rows.proofs.Knowing.{bounds_joined}
use Rattle.fs_moderows.specs.Table.{IsModeTable}
use Rattle.fs_moderows.proofs.Moves.{came_table, joined_table}
use Rattle.fs_moderows.proofs.mode_rows.ModeRows.join.Goals as goal

pub join-requires-clause-ordered : goal.join-requires-clause-ordered
join-requires-clause-ordered c =
    let table : IsModeTable c.items_mut.result.now.items = subst IsModeTable (sym c.items_mut.ensures.value) c.self.invariant.0 in
    let fresh : are_new c.items_mut.result.now.items c.args.rows ≡ true = ap (λ z. are_new z c.args.rows) (c.items_mut.ensures.value ∙ c.self.view_is) ∙ c.requires.new in
    (came_table _ c.args.rows fresh c.requires.on_modes table).ordered

pub invariant_of-self : goal.invariant_of-self
invariant_of-self c =
    let table : IsModeTable c.items_mut.result.now.items = subst IsModeTable (sym c.items_mut.ensures.value) c.self.invariant.0 in
    let fresh : are_new c.items_mut.result.now.items c.args.rows ≡ true = ap (λ z. are_new z c.args.rows) (c.items_mut.ensures.value ∙ c.self.view_is) ∙ c.requires.new in
    let bounds : AreBounds c.self.inside.least c.self.inside.locked c.items_mut.result.now.items = subst (AreBounds c.self.inside.least c.self.inside.locked) (sym c.items_mut.ensures.value) c.self.invariant.1 in
    let ends = subst (EndNoSooner c.least_end.result) c.as_slice.ensures c.least_end.ensures in
    let known = c.or_locks-self-inside.ensures ∙ ap (λ (rs : List Row). c.self.inside.locked || list_any (λ (r : Row). is_some r.lock) rs) c.as_slice-2.ensures in (
      joined_table c.join.result _ _ _ c.join.ensures.ok c.join.ensures.err table fresh c.requires.on_modes,
      bounds_joined c.join.result c.self.inside.least c.least_end.result c.lesser-self-inside.result c.self.inside.locked c.or_locks-self-inside.result c.items_mut.result.now.items c.join.new.rows.items c.args.rows
          c.join.ensures.ok c.join.ensures.err c.lesser-self-inside.ensures.first c.lesser-self-inside.ensures.second ends known bounds,
      c.join.ensures.index,
    )

pub returns-clause-valid : goal.returns-clause-valid
returns-clause-valid c = (invariant_of-self c).0
