use Rattle.std.proofs.Common.{sym, ◌∙◌}
use Rattle.fs_world.proofs.AtSession.{joined_after, none_there}
use Rattle.fs_world.proofs.servers.world.Served.join.Goals as goal

pub returns-clause-linked : goal.returns-clause-linked
returns-clause-linked c =
    joined_after c.args.self.now c.args.s c.in_ok-new.field-0 c.add.new.self (none_there _ (sym c.if-has.false ∙ c.has.ensures))
    c.in_ok-new.ensures c.in_ok-add.ensures.ok c.requires.first c.requires.few c.requires.linked
