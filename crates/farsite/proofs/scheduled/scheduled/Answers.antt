use Rattle.std.proofs.Common.{ℕ, List, subst}
use Rattle.fs_schedule.specs.Faults.{AtLine, IsFirstFault, IsOutside, IsSkewed}
use Rattle.fs_world.specs.World.{AtCounter}
use Rattle.farsite.specs.Headline.{IsLimit, IsPartOfRun, IsRun, IsStopped}
use Rattle.farsite.proofs.Done.{as_told}
use Rattle.farsite.proofs.scheduled.scheduled.Goals as goal

pub returns-in-Ok-clause-done : goal.returns-in-Ok-clause-done
returns-in-Ok-clause-done g c = λ e.
    let P : List ℕ → Type 0 = λ bs. IsRun c.args.format bs (g.K.Sink.written c.args.out.now) (g.K.Sink.written c.replay.new.out) in
    as_told (g.S.Source.left c.args.input.now) c.in-Ok.bytes.items P c.in-Ok.ensures.all (subst P c.deref.ensures.value (c.replay.ensures.done e))

pub returns-in-Ok-clause-bad_line : goal.returns-in-Ok-clause-bad_line
returns-in-Ok-clause-bad_line g c = λ line e.
    let P : List ℕ → Type 0 = λ bs. IsFirstFault (AtLine line IsOutside) bs in
    as_told (g.S.Source.left c.args.input.now) c.in-Ok.bytes.items P c.in-Ok.ensures.all (subst P c.deref.ensures.value (c.replay.ensures.bad_line line e))

pub returns-in-Ok-clause-skewed : goal.returns-in-Ok-clause-skewed
returns-in-Ok-clause-skewed g c = λ line earlier e.
    let P : List ℕ → Type 0 = λ bs. IsFirstFault (IsSkewed line earlier) bs in
    as_told (g.S.Source.left c.args.input.now) c.in-Ok.bytes.items P c.in-Ok.ensures.all (subst P c.deref.ensures.value (c.replay.ensures.skewed line earlier e))

pub returns-in-Ok-clause-limit : goal.returns-in-Ok-clause-limit
returns-in-Ok-clause-limit g c = λ which at e.
    let P : List ℕ → Type 0 = λ bs. IsLimit which at bs in
    as_told (g.S.Source.left c.args.input.now) c.in-Ok.bytes.items P c.in-Ok.ensures.all (subst P c.deref.ensures.value (c.replay.ensures.limit which at e))

pub returns-in-Ok-clause-spent : goal.returns-in-Ok-clause-spent
returns-in-Ok-clause-spent g c = λ counter e.
    let P : List ℕ → Type 0 = λ bs. IsStopped (AtCounter counter) bs in
    as_told (g.S.Source.left c.args.input.now) c.in-Ok.bytes.items P c.in-Ok.ensures.all (subst P c.deref.ensures.value (c.replay.ensures.spent counter e))

pub returns-in-Ok-clause-prefix : goal.returns-in-Ok-clause-prefix
returns-in-Ok-clause-prefix g c = λ e.
    let P : List ℕ → Type 0 = λ bs. IsPartOfRun c.args.format bs (g.K.Sink.written c.args.out.now) (g.K.Sink.written c.replay.new.out) in
    as_told (g.S.Source.left c.args.input.now) c.in-Ok.bytes.items P c.in-Ok.ensures.all (subst P c.deref.ensures.value (c.replay.ensures.prefix e))
