use Rattle.std.proofs.Common.{ap, take, drop, map, ◌∙◌}
use Rattle.fs_view.specs.Admit.{knowing_all}
use Rattle.fs_view.proofs.Bases.{front_at}
use Rattle.fs_view.proofs.Found.{known_found}
use Rattle.fs_view.proofs.view.View.admit_front.Goals as goal

pub invariant_of-self-2 : goal.invariant_of-self-2
invariant_of-self-2 c = known_found c.self.inside.session c.front-admitted.result.now c.self.inside.leases.kept.items c.admit.new.leases.items _ _ _ c.in_ok-admit.ensures.ok c.self.invariant

pub returns-clause-ok : goal.returns-clause-ok
returns-clause-ok c =
    let front = c.front-admitted.ensures ∙ ap (take c.args.count) c.as_slice.ensures in
    let rest = c.drop_front.ensures ∙ ap (drop c.args.count) c.items_mut.ensures.value in
    front_at c.args.count c.args.self.now c.self.inside.session c.self.inside.leases.kept.items c.admit.new.leases.items c.self.inside.pending c.drop_front.new.log.items c.self.view_is (c.in_ok-admit.ensures.ok ∙ ap (λ xs. map (knowing_all c.self.inside.session xs) c.self.inside.leases.kept.items) front) rest
