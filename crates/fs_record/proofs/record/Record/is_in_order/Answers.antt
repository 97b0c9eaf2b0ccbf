use Rattle.std.proofs.Common.{◌∙◌, sym}
use Rattle.fs_record.proofs.Rising.{test_order, order_test}
use Rattle.fs_record.proofs.record.Record.is_in_order.Goals as goal

pub returns-clause-order : goal.returns-clause-order
returns-clause-order c = (λ h. test_order c.args.self.now.node (sym c.is_in_order.ensures ∙ h), λ o. c.is_in_order.ensures ∙ order_test c.args.self.now.node o)
