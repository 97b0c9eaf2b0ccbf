use Rattle.std.proofs.Common.{◌||◌, ap, sym, subst, ◌∙◌}
use Rattle.std.specs.Prelude.{List, is_some}
use Rattle.std.specs.List.{filter, list_any}
use Rattle.fs_field.specs.declared.row.Row.{Row}
use Rattle.fs_field.specs.Table.{is_live}
use Rattle.fs_rows.specs.Bounds.{AreLocksKnown}
use Rattle.fs_rows.specs.Granted.{with_rows}
use Rattle.fs_rows.proofs.Knowing.{locks_granted}
use Rattle.fs_moderows.specs.Table.{IsModeTable}
use Rattle.fs_moderows.proofs.Tables.{granted_table}
use Rattle.fs_moderows.proofs.mode_rows.ModeRows.grant_all.Goals as goal

pub invariant_of-self : goal.invariant_of-self
invariant_of-self c =
    let same = c.items_mut.ensures.value in
    let table : IsModeTable c.items_mut.result.now.items = subst IsModeTable (sym same) c.self.invariant.0 in
    let all : IsModeTable (with_rows c.args.rows (filter (is_live c.args.now c.args.skew) c.items_mut.result.now.items)) = subst (λ (rs : List Row). IsModeTable (with_rows c.args.rows (filter (is_live c.args.now c.args.skew) rs))) (sym (same ∙ c.self.view_is)) c.requires.table in
    let known = c.or_locks-self-inside.ensures ∙ ap (λ (rs : List Row). c.self.inside.locked || list_any (λ (r : Row). is_some r.lock) rs) c.as_slice.ensures in (
      granted_table c.grant_all.result c.items_mut.result.now.items c.grant_all.new.rows.items (filter (is_live c.args.now c.args.skew) c.items_mut.result.now.items) c.args.rows c.grant_all.ensures.ok c.grant_all.ensures.err all table,
      record {
        ends = c.grant_all.ensures.ends;
        locks = locks_granted c.grant_all.result c.self.inside.locked c.or_locks-self-inside.result (is_live c.args.now c.args.skew) c.items_mut.result.now.items c.grant_all.new.rows.items c.args.rows c.grant_all.ensures.ok c.grant_all.ensures.err known
            (subst (AreLocksKnown c.self.inside.locked) (sym same) c.self.invariant.1.locks);
      },
      c.grant_all.ensures.index,
    )

pub returns-clause-valid : goal.returns-clause-valid
returns-clause-valid c = (invariant_of-self c).0
