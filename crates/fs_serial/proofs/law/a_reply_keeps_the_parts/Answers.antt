use Rattle.fs_serial.proofs.Replies.ReplyAll.{replied_client, reply_kept}
use Rattle.fs_serial.proofs.law.a_reply_keeps_the_parts.Goals as goal

pub returns-clause-parts : goal.returns-clause-parts
returns-clause-parts c = reply_kept

pub returns-clause-client : goal.returns-clause-client
returns-clause-client c = λ by c down o r a f. replied_client by c down o r a f
