use Rattle.std.proofs.Common.{ap, ◌∙◌}
use Rattle.fs_client.proofs.Keeping.{is_client_still}
use Rattle.fs_client.specs.Client.{can_commit}
use Rattle.fs_client.proofs.client_core.ClientCore.commit.Goals as goal

pub invariant_of-self : goal.invariant_of-self
invariant_of-self c = is_client_still c.commit.result c.args.ready c.self.inside.client _ c.commit.ensures.ok c.commit.ensures.err c.self.invariant (ap (can_commit c.args.ready) c.self.view_is ∙ c.requires)
