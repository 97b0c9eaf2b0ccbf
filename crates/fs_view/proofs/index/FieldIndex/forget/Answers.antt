use Rattle.fs_view.specs.Index.{but_number}
use Rattle.fs_view.proofs.ByField.{emptied_at}
use Rattle.fs_view.proofs.index.FieldIndex.forget.Goals as goal

pub returns-then-thin-clause-changed : goal.returns-then-thin-clause-changed
returns-then-thin-clause-changed c = emptied_at (but_number c.args.no) _ _ _ c.args.field.now c.thin.ensures.changed (c.thin.ensures.empty c.if-thin.true) c.remove.ensures.updates.0
