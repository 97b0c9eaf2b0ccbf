use Rattle.std.proofs.Common.{◌∙◌}
use Rattle.fs_moderows.proofs.FoundOnce.{reap_found}
use Rattle.fs_moderows.proofs.against.first_against_reap.Goals as goal

pub returns : goal.returns
returns c = c.first.ensures ∙ reap_found c.args.opens.now c.args.rows.now c.args.session c.args.file.now c.each_mode-each.result c.each_mode-each.ensures
