use Rattle.fs_view.proofs.Replies.{replies}
use Rattle.fs_view.proofs.law.replies_are_the_step.Goals as goal

pub returns : goal.returns
returns c = replies
