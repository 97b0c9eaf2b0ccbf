use Rattle.std.proofs.Common.{sym, ◌∙◌}
use Rattle.fs_path.proofs.Own.{own_rises}
use Rattle.fs_path.proofs.giving.recalls_under.Goals as goal

pub found_under-requires-clause-rising : goal.found_under-requires-clause-rising
found_under-requires-clause-rising c = own_rises c.args.had.now.own c.args.held.now c.requires.had.0 (sym c.is_whole.ensures ∙ c.if-is_whole.true)
