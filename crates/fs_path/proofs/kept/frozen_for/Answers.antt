use Rattle.std.proofs.Common.{ap, ◌∙◌}
use Rattle.fs_path.specs.Kept.{first_of}
use Rattle.fs_path.proofs.Frozen.{first_keeping}
use Rattle.fs_path.proofs.kept.frozen_for.Goals as goal

pub returns-then-kept : goal.returns-then-kept
returns-then-kept c =
    c.first_txn.ensures
    ∙ ap first_of (c.items_at.ensures ∙ (c.requires c.if-kept.true).1 c.args.file.now)
    ∙ first_keeping c.args.file.now c.args.frozen.now
