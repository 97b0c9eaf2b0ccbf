use Rattle.std.proofs.Common.{◌==◌, ap, sym, ◌∙◌}
use Rattle.fs_msg.specs.declared.entry.Entry.{Entry}
use Rattle.fs_client.proofs.FitsSteps.{entry_there, no_entry}
use Rattle.fs_client.proofs.fits.is_entry_at.Goals as goal

pub returns-then-at-log : goal.returns-then-at-log
returns-then-at-log c =
    ap (λ (e : Entry). e.n == c.args.n) (sym c.index-log-at.is)
    ∙ sym (entry_there c.args.n c.args.at c.args.log.now c.index-log-at.result c.if-at-log.true c.index-log-at.is)

pub returns : goal.returns
returns c = sym (no_entry c.args.n c.args.at c.args.log.now c.if-at-log.false)
