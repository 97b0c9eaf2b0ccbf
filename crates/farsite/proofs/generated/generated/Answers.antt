use Rattle.std.proofs.Common.{◌≡◌, ℕ, List, ◌∙◌, subst, sym}
use Rattle.std.specs.Io.KnownBytes.{Appends}
use Rattle.fs_schedule.specs.declared.event.Schedule.{Schedule}
use Rattle.fs_schedule.specs.Made.{made}
use Rattle.fs_schedule.specs.Spelling.{FitsHead}
use Rattle.fs_schedule.proofs.MadeEvents.{made_fits, made_form}
use Rattle.fs_world.specs.World.{first_world}
use Rattle.farsite.specs.Fitting.{MayHappen}
use Rattle.farsite.proofs.Asked.{all_fit}
use Rattle.farsite.proofs.Done.{generated}
use Rattle.farsite.proofs.generated.generated.Goals as goal

pub line_of-requires-clause-head : goal.line_of-requires-clause-head
line_of-requires-clause-head g c = subst (λ (s : Schedule). FitsHead s.head) (sym c.in-Ok.ensures) (made_form c.args.n)

pub line_of-requires-clause-events : goal.line_of-requires-clause-events
line_of-requires-clause-events g c =
    subst (λ (s : Schedule). MayHappen (first_world s.head) s.events) (sym c.in-Ok.ensures) (all_fit (made c.args.n).head (made c.args.n).events (made_fits c.args.n))

pub returns-in-Ok-write_lines-clause-done : goal.returns-in-Ok-write_lines-clause-done
returns-in-Ok-write_lines-clause-done g c = λ _.
    generated c.args.n c.in-Ok.schedule (g.K.Sink.written c.args.out.now) (g.K.Sink.written c.write_lines.new.out) (sym c.in-Ok.ensures)
    c.in-Ok-line_of.ensures.whole c.in-Ok-line_of.ensures.known c.in-Ok-line_of.ensures.carried
    (subst (λ (bs : List ℕ). Appends (g.K.Sink.written c.args.out.now) (g.K.Sink.written c.write_lines.new.out) bs) (c.deref.ensures.value ∙ c.in-Ok-line_of.ensures.ok) c.in-Ok-write_lines.ensures.ok)
