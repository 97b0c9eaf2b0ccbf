use Rattle.std.proofs.Common.{ap, ◌∙◌}
use Rattle.std.specs.FinMap.{get}
use Rattle.fs_ident.specs.Maps.{map_of}
use Rattle.fs_rows.specs.Index.{numbers_at}
use Rattle.fs_rows.proofs.index.FieldIndex.on.Goals as goal

pub returns-in-Some : goal.returns-in-Some
returns-in-Some c = c.on.ensures ∙ ap (λ o. numbers_at o c.args.field.now) (c.in-Some.ensures ∙ ap (get (map_of c.args.self.now.files)) c.file.ensures)

pub returns-in-None : goal.returns-in-None
returns-in-None c = ap (λ o. numbers_at o c.args.field.now) (c.in-None.ensures ∙ ap (get (map_of c.args.self.now.files)) c.file.ensures)
