use Rattle.std.proofs.Common.{◌≡◌, ◌&&◌, not, map, ap, subst, ◌∙◌}
use Rattle.std.specs.Prelude.{IfOk, is_some}
use Rattle.fs_field.specs.declared.row.Row.{Row}
use Rattle.fs_field.specs.Field.{same_field}
use Rattle.fs_field.specs.Table.{is_live}
use Rattle.fs_rows.specs.Picked.{AreRising, picked}
use Rattle.fs_rows.proofs.Picking.{unlocked_told}
use Rattle.fs_rows.proofs.found.unlocked_by.Goals as goal

pub returns : goal.returns
returns c =
    subst (λ x. IfOk c.pairs_of.result (λ told. told ≡ x))
    (ap (λ ns. map (λ (r : Row). (r.no, r.session)) (picked (λ r. is_live c.args.now c.args.skew r && (same_field r.field c.args.field.now && not (is_some r.lock))) c.args.rows.now ns)) c.as_slice.ensures
    ∙ unlocked_told c.args.index.now c.args.rows.now c.args.field.now c.in_ok-numbers.numbers (is_live c.args.now c.args.skew) c.requires.ordered c.requires.whole c.requires.index
    (subst (λ ns. AreRising ns c.in_ok-numbers.numbers) c.on.ensures c.in_ok-numbers.ensures))
    c.pairs_of.ensures
