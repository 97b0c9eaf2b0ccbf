use Rattle.fs_server.proofs.LeaderLaws.{lead_unadmitted, vote_unadmitted}
use Rattle.fs_server.proofs.law.what_is_not_admitted_changes_no_file.Goals as goal

pub returns-clause-leads : goal.returns-clause-leads
returns-clause-leads c = lead_unadmitted

pub returns-clause-votes : goal.returns-clause-votes
returns-clause-votes c = vote_unadmitted
