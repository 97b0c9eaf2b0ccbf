use Rattle.fs_actor.proofs.Whole.{read-again, read-only}
use Rattle.fs_actor.proofs.law.a_message_is_read_from_its_bytes.Goals as goal

pub returns : goal.returns
returns c = record { again = read-again; only = read-only }
