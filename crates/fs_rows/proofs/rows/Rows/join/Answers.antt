use Rattle.std.proofs.Common.{◌≡◌, ◌||◌, List, true, ap, sym, subst, ◌∙◌}
use Rattle.std.specs.Prelude.{is_some}
use Rattle.std.specs.List.{list_any}
use Rattle.fs_field.specs.declared.row.Row.{Row}
use Rattle.fs_rows.specs.Bounds.{AreBounds, EndNoSooner}
use Rattle.fs_rows.specs.Moving.{fits}
use Rattle.fs_rows.specs.Table.{IsTable}
use Rattle.fs_rows.proofs.Knowing.{bounds_joined}
use Rattle.fs_rows.proofs.Comes.{came_table, joined_table}
use Rattle.fs_rows.proofs.rows.Rows.join.Goals as goal

pub invariant_of-self : goal.invariant_of-self
invariant_of-self c =
    let table : IsTable c.items_mut.result.now.items = subst IsTable (sym c.items_mut.ensures.value) c.self.invariant.0 in
    let bounds : AreBounds c.self.inside.least c.self.inside.locked c.items_mut.result.now.items = subst (AreBounds c.self.inside.least c.self.inside.locked) (sym c.items_mut.ensures.value) c.self.invariant.1 in
    let fit : fits c.items_mut.result.now.items c.args.rows ≡ true = ap (λ z. fits z c.args.rows) (c.items_mut.ensures.value ∙ c.self.view_is) ∙ c.requires.fits in
    let ends = subst (EndNoSooner c.least_end.result) c.as_slice.ensures c.least_end.ensures in
    let known = c.or_locks-self-inside.ensures ∙ ap (λ (rs : List Row). c.self.inside.locked || list_any (λ (r : Row). is_some r.lock) rs) c.as_slice-2.ensures in (
      joined_table c.add_all.result _ _ _ c.add_all.ensures.ok c.add_all.ensures.err table c.requires.off_modes fit,
      bounds_joined c.add_all.result c.self.inside.least c.least_end.result c.lesser-self-inside.result c.self.inside.locked c.or_locks-self-inside.result c.items_mut.result.now.items c.add_all.new.rows.items c.args.rows
          c.add_all.ensures.ok c.add_all.ensures.err c.lesser-self-inside.ensures.first c.lesser-self-inside.ensures.second ends known bounds,
      c.add_all.ensures.index,
    )

pub returns-clause-valid : goal.returns-clause-valid
returns-clause-valid c = (invariant_of-self c).0

pub add_all-requires-clause-after : goal.add_all-requires-clause-after
add_all-requires-clause-after c =
    let table : IsTable c.items_mut.result.now.items = subst IsTable (sym c.items_mut.ensures.value) c.self.invariant.0 in
    let fit : fits c.items_mut.result.now.items c.args.rows ≡ true = ap (λ z. fits z c.args.rows) (c.items_mut.ensures.value ∙ c.self.view_is) ∙ c.requires.fits in
    (came_table c.items_mut.result.now.items c.args.rows table c.requires.off_modes fit).ordered
