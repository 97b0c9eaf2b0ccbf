use Rattle.fs_ident.specs.Maps.{map_of}
use Rattle.fs_model.specs.Step.{step}
use Rattle.fs_model.proofs.Keeping.{step_kept, either_kept}
use Rattle.fs_model.proofs.space.Space.step.Goals as goal

pub invariant_of-self : goal.invariant_of-self
invariant_of-self c =
    let old = map_of c.self.inside.nodes in
    let told = step old c.args.by c.args.op.now in
    (either_kept c.step.result old (map_of c.step.new.nodes) told.nodes c.step.ensures.nodes c.step.ensures.err c.self.invariant.0 (step_kept old c.args.by c.args.op.now c.self.invariant.0), c.step.ensures.ways)
