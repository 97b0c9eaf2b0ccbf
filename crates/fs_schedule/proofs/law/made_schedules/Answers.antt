use Rattle.fs_schedule.proofs.MadeEvents.{made_few, made_fits, made_form, made_timely}
use Rattle.fs_schedule.proofs.law.made_schedules.Goals as goal

pub returns : goal.returns
returns c = record { form = made_form; fits = made_fits; timely = made_timely; few = made_few }
