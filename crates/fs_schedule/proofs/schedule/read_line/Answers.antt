use Rattle.std.proofs.Common.{◌≡◌, ◌+◌, sym}
use Rattle.fs_schedule.specs.declared.error.ScheduleError.TheVariants.{BadLine}
use Rattle.fs_schedule.proofs.Reading.{no_line}
use Rattle.fs_schedule.proofs.Limited.{line_is_over, unread_outside}
use Rattle.fs_schedule.proofs.schedule.read_line.Goals as goal

pub returns-in-Ok-clause-limit : goal.returns-in-Ok-clause-limit
returns-in-Ok-clause-limit c = λ which n h. line_is_over c.args.head c.in-Ok.event c.args.before n which c.args.line.now c.within_limits.result c.in-Ok.ensures c.in_ok-within_length.ensures.short c.within_limits.ensures.err h

pub returns-in-Err-clause-bad_line : goal.returns-in-Err-clause-bad_line
returns-in-Err-clause-bad_line c = λ n h.
    let r : c.unread_line.result ≡ BadLine n = cc in
    let q = unread_outside c.in-Err.e c.unread_line.result (c.args.before + 2) n c.unread_line.ensures.outside c.unread_line.ensures.memory r in
    (sym q.1, (c.in_ok-within_length.ensures.short, λ x is. no_line c.args.head x c.args.line.now (c.in-Err.ensures q.0) is))
