use Rattle.fs_serial.proofs.Moves.Arriving.{arriving_places, arriving_keeps, parcel_fits}
use Rattle.fs_serial.proofs.law.a_parcel_that_comes_leaves_all_as_it_was.Goals as goal

pub returns-clause-fits : goal.returns-clause-fits
returns-clause-fits c = parcel_fits

pub returns-clause-same : goal.returns-clause-same
returns-clause-same c = arriving_keeps

pub returns-clause-places : goal.returns-clause-places
returns-clause-places c = arriving_places
