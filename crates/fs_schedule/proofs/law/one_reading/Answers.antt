use Rattle.fs_schedule.proofs.Single.{one_schedule, one_fault, no_schedule, all_fit, form_fits}
use Rattle.fs_schedule.proofs.law.one_reading.Goals as goal

pub returns : goal.returns
returns c = record { schedule = one_schedule; fault = one_fault; apart = no_schedule; form = form_fits; fits = all_fit }
