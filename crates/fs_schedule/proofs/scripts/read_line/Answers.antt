use Rattle.std.proofs.Common.{◌≡◌, ◌+◌, sym}
use Rattle.fs_schedule.specs.declared.error.ScheduleError.TheVariants.{BadLine}
use Rattle.fs_schedule.proofs.Limited.{unread_outside}
use Rattle.fs_schedule.proofs.ScriptLaws.{script_is_over, script_passes}
use Rattle.fs_schedule.proofs.scripts.read_line.Goals as goal

pub returns-in-Ok-clause-ok : goal.returns-in-Ok-clause-ok
returns-in-Ok-clause-ok c = script_passes c.args.client c.args.head c.in-Ok.script c.args.before c.args.line.now c.within_events.result c.in-Ok.ensures c.in_ok-within_length.ensures.short c.within_events.ensures.ok

pub returns-in-Ok-clause-limit : goal.returns-in-Ok-clause-limit
returns-in-Ok-clause-limit c = λ which n h. script_is_over c.args.client c.args.head c.in-Ok.script c.args.before n which c.args.line.now c.within_events.result c.in-Ok.ensures c.in_ok-within_length.ensures.short c.within_events.ensures.err h

pub returns-in-Err-clause-bad_line : goal.returns-in-Err-clause-bad_line
returns-in-Err-clause-bad_line c = λ n h.
    let r : c.unread_line.result ≡ BadLine n = cc in
    let q = unread_outside c.in-Err.e c.unread_line.result (c.args.before + 1) n c.unread_line.ensures.outside c.unread_line.ensures.memory r in
    (sym q.1, (c.in_ok-within_length.ensures.short, c.in-Err.ensures q.0))
