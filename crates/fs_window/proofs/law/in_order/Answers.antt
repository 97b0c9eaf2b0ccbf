use Rattle.fs_window.proofs.Schedule.{to_the_right, to_the_left}
use Rattle.fs_window.proofs.law.in_order.Goals as goal

pub returns-clause-to_the_right : goal.returns-clause-to_the_right
returns-clause-to_the_right c = to_the_right

pub returns-clause-to_the_left : goal.returns-clause-to_the_left
returns-clause-to_the_left c = to_the_left
