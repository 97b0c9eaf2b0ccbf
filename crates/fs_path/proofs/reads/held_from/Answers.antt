use Rattle.std.proofs.Common.{sym, ◌∙◌}
use Rattle.fs_path.proofs.Own.{own_rises}
use Rattle.fs_path.proofs.reads.held_from.Goals as goal

pub found_held_from-requires : goal.found_held_from-requires
found_held_from-requires c = own_rises c.args.had.now.own c.args.held.now c.requires.0 (sym c.is_whole.ensures ∙ c.if-is_whole.true)
