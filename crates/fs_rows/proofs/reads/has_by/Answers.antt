use Rattle.std.proofs.Common.{◌==◌, ◌&&◌, Bool, ap, ◌∙◌}
use Rattle.std.specs.List.{filter, find}
use Rattle.fs_ident.proofs.Booleans.{first}
use Rattle.fs_field.specs.declared.row.Row.{Row}
use Rattle.fs_field.specs.Field.{same_field}
use Rattle.fs_field.specs.Table.{is_live}
use Rattle.fs_rows.specs.Index.{has_number}
use Rattle.fs_rows.proofs.LiveSteps.{found}
use Rattle.fs_rows.proofs.Reading.{one_told}
use Rattle.fs_rows.proofs.reads.has_by.Goals as goal

pub returns : goal.returns
returns c =
    let theirs : Row → Bool = λ r. same_field r.field c.args.field.now && (r.session.0 == c.args.session.0) in
    let live : Row → Bool = is_live c.args.now c.args.skew in
    c.is_some.ensures
    ∙ found c.least_among.result theirs (filter live c.args.rows.now)
    (c.least_among.ensures
    ∙ ap (λ ns. find (λ r. has_number r.no ns && (live r && theirs r)) c.args.rows.now) c.on.ensures
    ∙ one_told c.args.index.now c.args.rows.now c.requires.ordered c.requires.whole c.requires.index c.args.field.now theirs live (λ r h. first (same_field r.field c.args.field.now) (r.session.0 == c.args.session.0) h))
