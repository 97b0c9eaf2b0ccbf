use Rattle.std.proofs.Common.{ap, ◌∙◌}
use Rattle.std.specs.Prelude.{Some}
use Rattle.std.specs.FinMap.{insert}
use Rattle.fs_record.specs.Records.{nodes_of}
use Rattle.fs_record.proofs.NodeMaps.{node_with_at}
use Rattle.fs_serial.proofs.space.take.Goals as goal

pub returns : goal.returns
returns c =
    ap nodes_of c.in_ok-put.ensures.ok
    ∙ node_with_at c.args.all.now c.in_ok-copy.field-0 (Some (record { node = c.in_ok-node.node; next = c.next_in-next.result }))
    ∙ ap (λ k. insert (nodes_of c.args.all.now) k c.in_ok-node.node) c.in_ok-copy.ensures
    ∙ ap (insert (nodes_of c.args.all.now) c.args.file.now) c.in_ok-node.ensures
