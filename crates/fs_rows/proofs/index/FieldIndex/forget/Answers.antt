use Rattle.fs_ident.proofs.MapsOf.{map_of_remove}
use Rattle.fs_rows.specs.Index.{but_number}
use Rattle.fs_rows.proofs.ByField.{emptied_there}
use Rattle.fs_rows.proofs.index.FieldIndex.forget.Goals as goal

pub returns-then-thin-clause-changed : goal.returns-then-thin-clause-changed
returns-then-thin-clause-changed c = emptied_there (but_number c.args.no) c.args.field.now c.args.self.now.files _ _ c.file.result.now c.file.ensures c.thin.ensures.changed (c.thin.ensures.empty c.if-thin.true) (map_of_remove _ _ _ c.remove.ensures.updates)
