use Rattle.fs_map.proofs.Changing.{is_whole}
use Rattle.fs_map.proofs.change.hint_all.Goals as goal

pub change-requires-clause-piece : goal.change-requires-clause-piece
change-requires-clause-piece c = is_whole _ _ _ c.in_ok-whole.ensures.prefix c.in_ok-whole.ensures.given
