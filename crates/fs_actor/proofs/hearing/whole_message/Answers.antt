use Rattle.std.proofs.Common.{arith, ap, sym, ◌∙◌}
use Rattle.fs_actor.specs.Whole.{whole_message}
use Rattle.fs_actor.proofs.Whole.{none_fits, none_read, read-again}
use Rattle.fs_actor.proofs.hearing.whole_message.Goals as goal

pub returns-in-Ok-clause-read : goal.returns-in-Ok-clause-read
returns-in-Ok-clause-read c =
    let found = c.in-Ok.ensures.found in
    sym (ap whole_message found.1 ∙ read-again c.in-Ok.m found.0)

pub returns-in-Err-clause-read : goal.returns-in-Err-clause-read
returns-in-Err-clause-read c = none_read c.unread.result c.args.bytes.now c.in-Err.e (λ i. omega (arith, c.type_inv.bytes i)) c.in-Err.ensures.only c.unread.ensures.none c.unread.ensures.other

pub returns-in-Err-clause-fits : goal.returns-in-Err-clause-fits
returns-in-Err-clause-fits c = none_fits c.unread.result c.unread.ensures.none
