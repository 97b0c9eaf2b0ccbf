use Rattle.std.proofs.Common.{List, ◌&&◌, ap, ◌∙◌}
use Rattle.std.specs.Prelude.{Option}
use Rattle.std.specs.List.{find}
use Rattle.std.specs.FinMap.{get}
use Rattle.std.specs.Option.{option_map}
use Rattle.fs_ident.specs.Maps.{map_of}
use Rattle.fs_ident.specs.declared.actor.LeaseNo.{LeaseNo}
use Rattle.fs_field.specs.declared.row.Row.{Row}
use Rattle.fs_field.specs.Conflict.{stands_against}
use Rattle.fs_field.specs.Table.{is_live}
use Rattle.fs_rows.specs.Index.{children_of, has_number}
use Rattle.fs_rows.proofs.Reading.{alike}
use Rattle.fs_rows.proofs.Children.{listed_told, unlisted_told}
use Rattle.fs_rows.proofs.reads.first_listed.Goals as goal

pub returns-in-Some : goal.returns-in-Some
returns-in-Some c =
    let sought : List LeaseNo → Option Row = λ ns. find (λ r. has_number r.no ns && (is_live c.args.now c.args.skew r && stands_against c.args.session c.args.field.now c.args.kind r)) c.args.rows.now in
    c.lesser.ensures
    ∙ alike _ _ _ _ (c.least_among-here.ensures ∙ ap sought c.on.ensures) c.least_named.ensures
    ∙ listed_told c.args.index.now c.args.rows.now c.requires.ordered c.requires.whole c.requires.index c.args.session c.args.field.now c.args.kind (is_live c.args.now c.args.skew) c.requires.list c.in-Some.children.now
    (c.in-Some.ensures ∙ ap (λ d. option_map children_of (get (map_of c.args.index.now.files) d)) c.file.ensures)

pub returns-in-None : goal.returns-in-None
returns-in-None c =
    let sought : List LeaseNo → Option Row = λ ns. find (λ r. has_number r.no ns && (is_live c.args.now c.args.skew r && stands_against c.args.session c.args.field.now c.args.kind r)) c.args.rows.now in
    c.least_among-here.ensures ∙ ap sought c.on.ensures
    ∙ unlisted_told c.args.index.now c.args.rows.now c.requires.ordered c.requires.whole c.requires.index c.args.session c.args.field.now c.args.kind (is_live c.args.now c.args.skew) c.requires.list
    (c.in-None.ensures ∙ ap (λ d. option_map children_of (get (map_of c.args.index.now.files) d)) c.file.ensures)
