use Rattle.std.proofs.Common.{sym, subst}
use Rattle.std.specs.Fmt.{HasWritten}
use Rattle.fs_schedule.specs.declared.error.ScheduleError.{ScheduleError}
use Rattle.fs_schedule.specs.Errors.{error_text}
use Rattle.fs_schedule.proofs.error.ScheduleErrorDisplay.fmt.Goals as goal

pub returns-in-Skewed-clause-writes : goal.returns-in-Skewed-clause-writes
returns-in-Skewed-clause-writes g c = λ plain ok.
    subst (λ (s : ScheduleError). HasWritten {W = g.row.W.Denot} g.W.Write.write_str_gives c.args.f.now (error_text s) c.write-in-Skewed.new.self) (sym c.in-Skewed.is) (c.write-in-Skewed.ensures.writes plain ok)
