use Rattle.fs_txn.proofs.Past.{all_past, commit_past, decide_past}
use Rattle.fs_txn.proofs.law.decided_effects_go_past.Goals as goal

pub returns : goal.returns
returns c = record { admission = all_past; commit = commit_past; decide = decide_past }
