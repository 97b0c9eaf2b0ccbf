use Rattle.fs_schedule.specs.Reading.{word_of, words_in}
use Rattle.fs_schedule.proofs.Refusals.{told_recall}
use Rattle.fs_schedule.proofs.line.recall_by.Goals as goal

pub returns : goal.returns
returns c = told_recall c.args.head c.in_ok-server.server c.in_ok-field.field (word_of c.args.server.now) (words_in c.args.words.now) c.in_ok-server.ensures c.in_ok-field.ensures
