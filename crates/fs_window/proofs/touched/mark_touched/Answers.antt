use Rattle.fs_window.proofs.Settled.{all_settled}
use Rattle.fs_window.proofs.touched.mark_touched.Goals as goal

pub returns-clause-settled : goal.returns-clause-settled
returns-clause-settled c = λ none. rw (c.truncate.ensures, c.mark_due.ensures) (all_settled c.args.links.now.items)
