use Rattle.fs_server.proofs.Freezing.{kept_stays, unnamed_keeps_none, unsaid_keeps_none, yes_keeps}
use Rattle.fs_server.proofs.law.a_yes_keeps_its_file.Goals as goal

pub returns-clause-kept : goal.returns-clause-kept
returns-clause-kept c = yes_keeps

pub returns-clause-stays : goal.returns-clause-stays
returns-clause-stays c = kept_stays

pub returns-clause-unnamed : goal.returns-clause-unnamed
returns-clause-unnamed c = unnamed_keeps_none

pub returns-clause-unsaid : goal.returns-clause-unsaid
returns-clause-unsaid c = unsaid_keeps_none
