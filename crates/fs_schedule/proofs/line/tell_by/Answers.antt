use Rattle.std.proofs.Common.{arith}
use Rattle.fs_schedule.specs.Reading.{word_of}
use Rattle.fs_schedule.proofs.Refusals.{told_tell}
use Rattle.fs_schedule.proofs.line.tell_by.Goals as goal

pub returns : goal.returns
returns c = told_tell c.args.head c.in_ok-number.number (word_of c.args.packet.now) (omega (arith, c.if-servers_in-eq0.false, c.servers_in.ensures)) c.in_ok-number.ensures.0 c.in_ok-number.ensures.1
