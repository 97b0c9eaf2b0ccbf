use Rattle.std.proofs.Common.{◌&&◌, ap, ◌∙◌}
use Rattle.std.specs.Prelude.{is_some}
use Rattle.std.specs.List.{find}
use Rattle.fs_field.specs.Field.{same_field}
use Rattle.fs_field.specs.Table.{is_live}
use Rattle.fs_rows.specs.Index.{has_number}
use Rattle.fs_rows.proofs.Reading.{lock_of, lock_told}
use Rattle.fs_rows.proofs.reads.lock_by.Goals as goal

pub returns-in-Some : goal.returns-in-Some
returns-in-Some c = ap lock_of c.in-Some.ensures
    ∙ ap (λ ns. lock_of (find (λ r. has_number r.no ns && (is_live c.args.now c.args.skew r && (same_field r.field c.args.field.now && is_some r.lock))) c.args.rows.now)) c.on.ensures
    ∙ lock_told c.args.index.now c.args.rows.now c.requires.ordered c.requires.whole c.requires.index c.args.field.now (is_live c.args.now c.args.skew)

pub returns-in-None : goal.returns-in-None
returns-in-None c = ap lock_of c.in-None.ensures
    ∙ ap (λ ns. lock_of (find (λ r. has_number r.no ns && (is_live c.args.now c.args.skew r && (same_field r.field c.args.field.now && is_some r.lock))) c.args.rows.now)) c.on.ensures
    ∙ lock_told c.args.index.now c.args.rows.now c.requires.ordered c.requires.whole c.requires.index c.args.field.now (is_live c.args.now c.args.skew)
