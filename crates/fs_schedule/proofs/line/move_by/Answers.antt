use Rattle.fs_schedule.specs.Reading.{word_of}
use Rattle.fs_schedule.proofs.Refusals.{told_move}
use Rattle.fs_schedule.proofs.line.move_by.Goals as goal

pub returns : goal.returns
returns c = told_move c.args.head c.in_ok-at.at _ c.in_ok-to.to (word_of c.args.server.now) (word_of c.args.prefix.now) (word_of c.args.other.now) c.in_ok-at.ensures c.in_ok-prefix.ensures c.in_ok-to.ensures
