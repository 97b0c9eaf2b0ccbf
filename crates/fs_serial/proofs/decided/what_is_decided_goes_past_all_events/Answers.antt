use Rattle.fs_serial.proofs.DecidedEffects.Applying.{decide_all}
use Rattle.fs_serial.proofs.DecidedEffects.DecidedKept.{client_fits}
use Rattle.fs_serial.proofs.LedOperations.LedSteps.{commit_past_all}
use Rattle.fs_serial.proofs.OneServer.ServerEvents.{event_past}
use Rattle.fs_serial.proofs.decided.what_is_decided_goes_past_all_events.Goals as goal

pub returns-clause-event : goal.returns-clause-event
returns-clause-event c = event_past

pub returns-clause-client : goal.returns-clause-client
returns-clause-client c = client_fits

pub returns-clause-commit : goal.returns-clause-commit
returns-clause-commit c = commit_past_all

pub returns-clause-decide : goal.returns-clause-decide
returns-clause-decide c = decide_all
