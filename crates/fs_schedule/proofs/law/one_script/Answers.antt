use Rattle.fs_schedule.proofs.ScriptLaws.{no_script, one_script, one_script_fault, script_fits}
use Rattle.fs_schedule.proofs.law.one_script.Goals as goal

pub returns : goal.returns
returns c = record { script = one_script; fault = one_script_fault; apart = no_script; fits = script_fits }
