use Rattle.std.proofs.Common.{ap, ◌∙◌}
use Rattle.fs_server.specs.Begins.{rounds}
use Rattle.fs_server.specs.Gathered.{gathered_by}
use Rattle.fs_server.proofs.Gathering.{first_gathered}
use Rattle.fs_server.proofs.begins.gather.Goals as goal

pub loop-i-init : goal.loop-i-init
loop-i-init c =
    ap (rounds c.args.txn 0 c.args.by c.args.parts.now) (
    (λ i. gathered_by (record { votes = c.new.ensures i; at = c.new-2.ensures i; uses = c.new-3.ensures i; files = c.new-4.ensures i; send = c.new-5.ensures i })
    c.args.txn c.args.at.now)
    ∙ first_gathered c.args.txn c.args.at.now)
