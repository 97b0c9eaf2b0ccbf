use Rattle.fs_view.proofs.Found.{found_known}
use Rattle.fs_view.proofs.view.View.admit.Goals as goal

pub invariant_of-self : goal.invariant_of-self
invariant_of-self c = found_known c.admit.result c.self.inside.session c.from_ref.result.now c.self.inside.leases.kept.items c.admit.new.leases.items _ _ _ c.admit.ensures.ok c.admit.ensures.err c.self.invariant
