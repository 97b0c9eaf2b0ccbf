use Rattle.fs_actor.proofs.Several.{client_as_one, server_as_one}
use Rattle.fs_actor.proofs.law.one_message_is_heard_as_one.Goals as goal

pub returns : goal.returns
returns c = record { client = client_as_one; server = server_as_one }
