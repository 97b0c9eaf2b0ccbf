use Rattle.std.proofs.Common.{rules, ap, ◌∙◌}
use Rattle.std.proofs.lemmas.Fn.{filter_same}
use Rattle.fs_path.specs.Kept.{are_in_order, txn_of}
use Rattle.fs_path.proofs.InOrder.{ordered_filter}
use Rattle.fs_path.proofs.kept.thaw.Goals as goal

pub returns-then-kept-clause-kept : goal.returns-then-kept-clause-kept
returns-then-kept-clause-kept c w = (
  ap (are_in_order txn_of) c.thaw_found.ensures.frozen ∙ ordered_filter txn_of _ c.args.frozen.now.items (c.requires w).0,
  c.thaw_found.ensures.kept,
)

pub returns-else-kept-clause-frozen : goal.returns-else-kept-clause-frozen
returns-else-kept-clause-frozen c = filter_same _ _ _ (λ x b f k. search rules) _ _ c.retain.ensures.filtered
