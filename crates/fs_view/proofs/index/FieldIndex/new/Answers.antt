use Rattle.std.proofs.Common.{ap}
use Rattle.fs_view.proofs.ByField.{none_entered}
use Rattle.fs_view.proofs.index.FieldIndex.new.Goals as goal

pub returns : goal.returns
returns c = none_entered c.new.result.entries c.new.ensures.empty
