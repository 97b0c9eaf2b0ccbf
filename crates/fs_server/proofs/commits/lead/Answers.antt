use Rattle.std.proofs.Common.{◌≡◌, ◌∙◌, [], rules}
use Rattle.fs_server.specs.Gathered.{begun_at}
use Rattle.fs_server.specs.Plan.{changed}
use Rattle.fs_server.specs.declared.change.Change.TheVariants as change
use Rattle.fs_server.specs.declared.state.Server.{Server}
use Rattle.fs_server.proofs.Goes.{ends_free}
use Rattle.fs_server.proofs.commits.lead.Goals as goal

pub returns-in_ok-end-in-Ends-clause-ok : goal.returns-in_ok-end-in-Ends-clause-ok
returns-in_ok-end-in-Ends-clause-ok c =
    let s : Server = begun_at c.args.reading c.args.server.now in
    let free : c.free.new.server ≡ changed (change.Lead c.args.begins c.args.txn c.args.uses.now [] c.args.rest) s = search rules in
    free
    ∙ ends_free c.args.begins c.args.txn c.args.uses.now c.args.files.now c.in-Ends.effects c.in-Ends.removals c.in-Ends.ending c.in-Ends.keeps c.args.rest s
    c.in-Ends.is
