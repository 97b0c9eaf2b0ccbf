use Rattle.fs_server.proofs.InOrder.{ends_in_order, given_in_order}
use Rattle.fs_server.proofs.law.items_are_given_in_order.Goals as goal

pub returns-clause-given : goal.returns-clause-given
returns-clause-given c = given_in_order

pub returns-clause-end : goal.returns-clause-end
returns-clause-end c = ends_in_order
