use Rattle.std.proofs.Common.{sym, ◌∙◌}
use Rattle.fs_path.proofs.Own.{own_rises}
use Rattle.fs_path.proofs.reads.holds.Goals as goal

pub has_held-requires : goal.has_held-requires
has_held-requires c = own_rises c.args.had.now.own c.args.held.now c.requires.0 (sym c.is_whole.ensures ∙ c.if-is_whole.true)
