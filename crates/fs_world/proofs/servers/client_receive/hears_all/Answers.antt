use Rattle.fs_world.proofs.servers.client_receive.hears_all.Goals as goal

pub returns-else-len-le1-clause-spends : goal.returns-else-len-le1-clause-spends
returns-else-len-le1-clause-spends c = c.hears_several.ensures.spends c.args.journal.now
