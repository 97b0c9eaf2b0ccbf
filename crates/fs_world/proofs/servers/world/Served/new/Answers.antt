use Rattle.fs_world.proofs.Linked.{first_linked}
use Rattle.fs_world.proofs.servers.world.Served.new.Goals as goal

pub returns-clause-linked : goal.returns-clause-linked
returns-clause-linked c =
    rw (
      c.in_ok-new_servers.ensures,
      c.in_ok-new_posts.ensures,
      c.new.ensures,
      c.new-2.ensures,
      c.new-3.ensures,
      c.new-4.ensures,
      c.new-5.ensures,
    ) (first_linked c.args.servers c.args.skew c.args.term c.requires.one c.requires.few)
