use Rattle.fs_ident.proofs.MapsOf.{map_of_remove}
use Rattle.fs_rows.specs.Index.{but_number}
use Rattle.fs_rows.proofs.ByField.{emptied_at}
use Rattle.fs_moderows.proofs.index.FileIndex.forget.Goals as goal

pub returns-then-thin-clause-changed : goal.returns-then-thin-clause-changed
returns-then-thin-clause-changed c = emptied_at (but_number c.args.no) _ _ _ c.args.file.now c.thin.ensures.changed (c.thin.ensures.empty c.if-thin.true) (map_of_remove _ _ _ c.remove.ensures.updates)
