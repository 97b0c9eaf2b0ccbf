use Rattle.std.proofs.Common.{ap, ◌∙◌}
use Rattle.fs_field.specs.declared.field.Field.TheVariants.{Names}
use Rattle.fs_rows.specs.Index.{numbers_at}
use Rattle.fs_rows.proofs.index.FieldIndex.on_names.Goals as goal

pub returns-in-Some : goal.returns-in-Some
returns-in-Some c = c.as_slice.ensures ∙ ap (λ o. numbers_at o (Names c.args.dir.now)) c.in-Some.ensures

pub returns-in-None : goal.returns-in-None
returns-in-None c = ap (λ o. numbers_at o (Names c.args.dir.now)) c.in-None.ensures
