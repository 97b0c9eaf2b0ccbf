use Rattle.fs_rows.proofs.ByField.{nothing_new}
use Rattle.fs_rows.proofs.index.OnFile.new.Goals as goal

pub returns : goal.returns
returns c = nothing_new _ c.new.ensures c.new-2.ensures c.new-3.ensures c.new-4.ensures c.new-5.ensures.empty
