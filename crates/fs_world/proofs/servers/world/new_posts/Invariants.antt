use Rattle.std.proofs.Common.{◌≡◌}
use Rattle.fs_world.specs.Served.{first_posts}
use Rattle.fs_world.proofs.servers.world.new_posts.Given as goal

abbrev pub invariant-loop-me : goal.invariant-loop-me
invariant-loop-me l = l.posts ≡ first_posts l.me
