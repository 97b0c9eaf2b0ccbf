use Rattle.std.proofs.Common.{sym, subst}
use Rattle.std.proofs.lemmas.List.{take_all}
use Rattle.fs_view.specs.Index.{IsIndexOf}
use Rattle.fs_view.proofs.Found.{index_more}
use Rattle.fs_view.proofs.twin.index_of.Goals as goal

pub loop-lease-init : goal.loop-lease-init
loop-lease-init c w f = c.new-index.ensures f

pub loop-lease-preserved : goal.loop-lease-preserved
loop-lease-preserved c = index_more c.loop-lease.index _ c.args.kept.now c.loop-lease.lease-index c.lease-item.result c.loop-lease-test.true c.lease-item.is c.add.ensures c.loop-lease.invariant

pub returns : goal.returns
returns c = subst (IsIndexOf c.loop-lease.index) (take_all c.loop-lease.lease-index c.args.kept.now c.loop-lease-test.false) c.loop-lease.invariant
