use Rattle.std.proofs.Common.{ap, ◌∙◌}
use Rattle.fs_rows.specs.Moving.{least_of, locked_in}
use Rattle.fs_parcel.proofs.Locks.{locked_both}
use Rattle.fs_parcel.proofs.refusing.least_lock.Goals as goal

pub returns : goal.returns
returns c =
    c.least.ensures
    ∙ ap (λ o. least_of o c.locked_in-2.result) c.locked_in.ensures
    ∙ ap (least_of (locked_in c.args.prefix.now c.args.map.now c.args.me c.args.rows.now)) c.locked_in-2.ensures
    ∙ locked_both c.args.prefix.now c.args.map.now c.args.me c.args.rows.now c.args.modes.now
