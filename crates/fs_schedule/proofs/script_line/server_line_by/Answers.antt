use Rattle.fs_schedule.specs.Reading.{words_in}
use Rattle.fs_schedule.proofs.ScriptLaws.{reads_first}
use Rattle.fs_schedule.proofs.script_line.server_line_by.Goals as goal

pub returns-then-is_bare : goal.returns-then-is_bare
returns-then-is_bare c = reads_first c.args.head c.recall_line.result _ _ (words_in c.args.operands.now) (c.is_bare.ensures.0 c.if-is_bare.true) (c.recall_line.ensures c.args.head)
