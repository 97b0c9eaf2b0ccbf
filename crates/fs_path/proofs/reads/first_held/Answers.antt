use Rattle.std.proofs.Common.{sym, ◌∙◌}
use Rattle.fs_path.proofs.Least.{least_via}
use Rattle.fs_path.proofs.reads.first_held.Goals as goal

pub returns-then-is_whole : goal.returns-then-is_whole
returns-then-is_whole c =
    c.least_into.ensures ∙ least_via c.args.map.now c.args.me c.args.prefix.now c.args.via.now c.args.held.now c.requires (sym c.is_whole.ensures ∙ c.if-is_whole.true)
