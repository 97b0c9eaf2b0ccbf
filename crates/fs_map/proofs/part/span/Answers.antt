use Rattle.std.proofs.Common.{◌-◌, length, drop}
use Rattle.fs_map.proofs.Spans.{rest_order, front_order}
use Rattle.fs_map.proofs.part.span.Goals as goal

pub begun-count-requires-clause-order : goal.begun-count-requires-clause-order
begun-count-requires-clause-order c =
    front_order (drop c.earlier-start.result c.args.owners.now) (length c.args.owners.now - c.earlier-start.result) (rest_order c.args.owners.now c.earlier-start.result c.requires)
