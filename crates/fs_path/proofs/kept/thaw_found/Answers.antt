use Rattle.std.proofs.Common.{ap, sym, ◌∙◌}
use Rattle.fs_path.specs.Kept.{keeping, txn_of}
use Rattle.fs_path.proofs.Frozen.{kept_ordered, kept_thawed}
use Rattle.fs_path.proofs.InOrder.{gone_range}
use Rattle.fs_path.proofs.kept.thaw_found.Goals as goal

pub forget_each-requires : goal.forget_each-requires
forget_each-requires c = kept_ordered c.args.by_file.now c.args.frozen.now.items c.requires.order c.requires.kept

pub returns-clause-frozen : goal.returns-clause-frozen
returns-clause-frozen c = c.take_range.ensures ∙ gone_range txn_of c.args.txn c.args.frozen.now.items _ _ (rw c.deref.ensures.value at c.range_of-from.ensures.range)

pub returns-clause-kept : goal.returns-clause-kept
returns-clause-kept c f =
    kept_thawed c.args.txn c.args.frozen.now.items c.range_of-from.result.0 c.range_of-from.result.1 c.args.by_file.now c.forget_each.new.by_file c.range_of-from.ensures.rises
    (rw c.deref.ensures.value at c.range_of-from.ensures.range) c.requires.kept (rw c.deref-2.ensures.value at c.forget_each.ensures) f
    ∙ ap (keeping f) (sym (returns-clause-frozen c))
