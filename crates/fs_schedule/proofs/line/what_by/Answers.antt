use Rattle.fs_schedule.specs.Reading.{words_in}
use Rattle.fs_schedule.proofs.Refusals.{told_surely}
use Rattle.fs_schedule.proofs.line.what_by.Goals as goal

pub returns-then-is_bare : goal.returns-then-is_bare
returns-then-is_bare c = told_surely c.args.head c.join_of.result _ _ (words_in c.args.operands.now) (c.is_bare.ensures.0 c.if-is_bare.true) (c.join_of.ensures c.args.head)

pub returns-then-is_bare-3 : goal.returns-then-is_bare-3
returns-then-is_bare-3 c = told_surely c.args.head c.tell_of.result _ _ (words_in c.args.operands.now) (c.is_bare-else-is_bare-2.ensures.0 c.if-is_bare-3.true) c.tell_of.ensures

pub returns-then-is_bare-4 : goal.returns-then-is_bare-4
returns-then-is_bare-4 c = told_surely c.args.head c.turn_of.result _ _ (words_in c.args.operands.now) (c.is_bare-else-is_bare-3.ensures.0 c.if-is_bare-4.true) c.turn_of.ensures
