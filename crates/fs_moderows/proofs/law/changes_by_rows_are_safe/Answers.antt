use Rattle.fs_moderows.proofs.Changes.{changes_free, changes_kept}
use Rattle.fs_moderows.proofs.law.changes_by_rows_are_safe.Goals as goal

pub returns-clause-free : goal.returns-clause-free
returns-clause-free c rows before changed t h = changes_free rows before changed h t.on_modes

pub returns-clause-kept : goal.returns-clause-kept
returns-clause-kept c = changes_kept
