use Rattle.std.proofs.Common.{◌≡◌, sym}
use Rattle.fs_schedule.specs.declared.error.ScheduleError.TheVariants.{BadLine}
use Rattle.fs_schedule.proofs.Reading.{no_head_line}
use Rattle.fs_schedule.proofs.Limited.{head_fits, unread_outside}
use Rattle.fs_schedule.proofs.schedule.read_head.Goals as goal

pub returns-in-Ok-clause-form : goal.returns-in-Ok-clause-form
returns-in-Ok-clause-form c = head_fits c.in-Ok.head c.args.line.now c.within_servers.result c.in-Ok.ensures c.within_servers.ensures.few

pub returns-in-Err-clause-bad_line : goal.returns-in-Err-clause-bad_line
returns-in-Err-clause-bad_line c = λ n h.
    let r : c.unread_line.result ≡ BadLine n = cc in
    let q = unread_outside c.in-Err.e c.unread_line.result 1 n c.unread_line.ensures.outside c.unread_line.ensures.memory r in
    (sym q.1, (c.in_ok-within_length.ensures.short, λ x is. no_head_line x c.args.line.now (c.in-Err.ensures q.0) is))
