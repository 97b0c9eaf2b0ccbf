use Rattle.std.proofs.Common.{◌∙◌}
use Rattle.fs_rows.proofs.Goes.{all_live}
use Rattle.fs_moderows.proofs.live.Live.all.Goals as goal

pub returns : goal.returns
returns c = c.at.ensures ∙ all_live _
