use Rattle.std.proofs.Common.{◌≡◌, ◌++◌, append_assoc}
use Rattle.std.specs.Prelude.{codes}
use Rattle.std.specs.Fmt.{decimal}
use Rattle.fs_report.proofs.done.put_done.Goals as goal

pub returns : goal.returns
returns c =
    let done : c.put_bytes.new.out.items ≡ c.args.out.now.items ++ codes "done" = c.in_ok-put_bytes.ensures in
    let events : c.next_count.new.out.items ≡ c.put_bytes.new.out.items ++ (codes " events " ++ decimal c.args.events) = c.in_ok-next_count.ensures in
    let journal : c.next_count-2.new.out.items ≡ c.next_count.new.out.items ++ (codes " journal " ++ decimal c.args.journal) = c.in_ok-next_count-2.ensures in
    let nodes : c.next_count-3.new.out.items ≡ c.next_count-2.new.out.items ++ (codes " nodes " ++ decimal c.args.nodes) = c.in_ok-next_count-3.ensures in
    rw (c.in_ok-push.ensures.items, nodes, journal, events, done) (simp append_assoc)
