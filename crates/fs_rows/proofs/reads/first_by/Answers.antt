use Rattle.std.proofs.Common.{List, ◌&&◌, ap, sym, ◌∙◌}
use Rattle.std.specs.Prelude.{Option}
use Rattle.std.specs.List.{find}
use Rattle.fs_ident.specs.declared.actor.LeaseNo.{LeaseNo}
use Rattle.fs_field.specs.declared.row.Row.{Row}
use Rattle.fs_field.specs.Conflict.{stands_against}
use Rattle.fs_field.specs.Table.{is_live}
use Rattle.fs_rows.specs.Index.{has_number}
use Rattle.fs_rows.proofs.Reading.{alike, against_told, against_both}
use Rattle.fs_rows.proofs.reads.first_by.Goals as goal

pub returns-in-Some : goal.returns-in-Some
returns-in-Some c =
    let sought : List LeaseNo → Option Row = λ ns. find (λ r. has_number r.no ns && (is_live c.args.now c.args.skew r && stands_against c.args.session c.args.field.now c.args.kind r)) c.args.rows.now in
    c.lesser.ensures
    ∙ alike _ _ _ _ (c.least_among-here.ensures ∙ ap sought c.on.ensures) (c.least_among-above.ensures ∙ ap sought c.on_names.ensures)
    ∙ against_both c.args.index.now c.args.rows.now c.requires.ordered c.requires.whole c.requires.index c.args.session c.args.field.now c.args.kind (is_live c.args.now c.args.skew) c.in-Some.dir.now (sym c.in-Some.ensures)

pub returns-in-None : goal.returns-in-None
returns-in-None c =
    let sought : List LeaseNo → Option Row = λ ns. find (λ r. has_number r.no ns && (is_live c.args.now c.args.skew r && stands_against c.args.session c.args.field.now c.args.kind r)) c.args.rows.now in
    c.least_among-here.ensures ∙ ap sought c.on.ensures
    ∙ against_told c.args.index.now c.args.rows.now c.requires.ordered c.requires.whole c.requires.index c.args.session c.args.field.now c.args.kind (is_live c.args.now c.args.skew) (sym c.is_list.ensures ∙ c.if-is_list.false) (sym c.in-None.ensures)
