use Rattle.std.proofs.Common.{rules}
use Rattle.fs_msg.proofs.Readable.{always_rows}
use Rattle.fs_msg.proofs.bytes.answer.put_answer.Goals as goal

pub returns-in-Renewed-clause-fits : goal.returns-in-Renewed-clause-fits
returns-in-Renewed-clause-fits c = let all = always_rows c.in-Renewed.rows in search rules
