use Rattle.fs_view.proofs.Unread.{alike_but_gone, gone_is_unread, gone_stays}
use Rattle.fs_view.proofs.gone.what_is_gone_is_unread.Goals as goal

pub returns-clause-unread : goal.returns-clause-unread
returns-clause-unread c = gone_is_unread

pub returns-clause-stays : goal.returns-clause-stays
returns-clause-stays c = gone_stays

pub returns-clause-alike : goal.returns-clause-alike
returns-clause-alike c = alike_but_gone
