use Rattle.fs_schedule.specs.Lines.{lines_of}
use Rattle.fs_schedule.proofs.Single.{fits_events}
use Rattle.fs_schedule.proofs.schedule.read_lines.Goals as goal

pub returns-in_ok-events-in-Some-clause-fits : goal.returns-in_ok-events-in-Some-clause-fits
returns-in_ok-events-in-Some-clause-fits c = fits_events c.in_ok-head.head 0 c.in_ok-events-in-Some.events (lines_of c.in-Some.rest.now) c.in_ok-events-in-Some.ensures.ok
