use Rattle.std.proofs.Common.{◌≡◌, subst, sym}
use Rattle.std.specs.List.{AllByRecursion}
use Rattle.fs_schedule.specs.Spelling.{FitsEvent}
use Rattle.fs_world.specs.World.{FitsWorld}
use Rattle.fs_world.proofs.Fitting.{each_fits, fits_after, what_fits}
use Rattle.tests_cores.proofs.world.run.Goals as goal

pub step-requires-clause-asked : goal.step-requires-clause-asked
step-requires-clause-asked c =
    let h = c.args.schedule.now.head in
    let e = c.event-item.result in
    c.loop-event.invariant e.what (what_fits h e (each_fits h c.as_slice-event-items.result.now c.loop-event.event-index e
    (subst (λ es. AllByRecursion (FitsEvent h) es) (sym c.as_slice-event-items.ensures) c.requires.fits) c.loop-event-test.true c.event-item.is))

pub loop-event-preserved : goal.loop-event-preserved
loop-event-preserved c = λ what f.
    subst (λ w. FitsWorld w what) (sym c.in_ok-step.ensures.world) (fits_after c.loop-event.world c.event-item.result what (c.loop-event.invariant what f))
