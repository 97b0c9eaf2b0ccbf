use Rattle.std.proofs.Common.{sym, subst}
use Rattle.fs_rows.specs.Bounds.{EndNoSooner}
use Rattle.fs_rows.proofs.Knowing.{ends_granted}
use Rattle.fs_rows.proofs.grants.grant_all.Goals as goal

pub returns-clause-ends : goal.returns-clause-ends
returns-clause-ends c = subst (EndNoSooner c.lesser.result) (sym c.put_all.ensures)
    (ends_granted c.lapse_from-left.result c.least_end-ends.result c.lesser.result c.args.more c.lapse_from-left.new.rows.items c.lesser.ensures.first c.lesser.ensures.second c.lapse_from-left.ensures.least
    (subst (EndNoSooner c.least_end-ends.result) c.as_slice.ensures c.least_end-ends.ensures))
