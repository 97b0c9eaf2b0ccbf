use Rattle.std.proofs.Common.{sym, ◌∙◌, take, arith}
use Rattle.fs_client.proofs.FitsSteps.{no_items}
use Rattle.fs_client.proofs.fits.front_fits.Goals as goal

pub returns-then-done-items : goal.returns-then-done-items
returns-then-done-items c =
    sym (no_items c.loop-done.done c.args.items.now c.args.at.now.view.leases (take c.loop-done.done c.args.grants.now) c.args.grants.now (omega arith) (omega arith))
    ∙ c.loop-done.invariant.same
