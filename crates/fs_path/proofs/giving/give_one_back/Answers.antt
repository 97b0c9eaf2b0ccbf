use Rattle.std.proofs.Common.{sym, ◌∙◌}
use Rattle.fs_path.proofs.Own.{own_rises}
use Rattle.fs_path.proofs.giving.give_one_back.Goals as goal

pub give_found_back-requires-clause-rising : goal.give_found_back-requires-clause-rising
give_found_back-requires-clause-rising c = own_rises c.args.had.now.own c.args.held.now.items c.requires.had.0 (sym c.is_whole.ensures ∙ c.if-is_whole.true)
