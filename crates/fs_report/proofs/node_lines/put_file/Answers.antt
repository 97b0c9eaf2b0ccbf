use Rattle.fs_report.proofs.Lines.{file_stands}
use Rattle.fs_report.proofs.node_lines.put_file.Goals as goal

pub returns : goal.returns
returns c =
    file_stands c.args.id.now c.args.node.now c.as_slice-handle-items.result.now c.args.out.now.items c.put_node.new.out.items c.push.new.self.items c.loop-handle.out.items c.loop-handle.handle-index
    c.as_slice-handle-items.ensures c.in_ok-put_node.ensures.bytes c.in_ok-push.ensures.items c.loop-handle.invariant c.loop-handle-test.false
