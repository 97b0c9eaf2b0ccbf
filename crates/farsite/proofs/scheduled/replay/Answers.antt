use Rattle.std.proofs.Common.{◌≡◌, ℕ, List, ◌∙◌, subst, sym}
use Rattle.std.specs.Io.KnownBytes.{Appends}
use Rattle.fs_schedule.specs.declared.error.ScheduleError.TheVariants as schedule
use Rattle.farsite.proofs.Asked.{all_asked, all_fit}
use Rattle.farsite.proofs.Done.{limit_told, read_limit, replayed}
use Rattle.farsite.proofs.scheduled.replay.Goals as goal

pub text_of-requires-clause-events : goal.text_of-requires-clause-events
text_of-requires-clause-events g c = all_fit c.in-Ok.schedule.head c.in-Ok.schedule.events c.in-Ok.ensures.fits

pub returns-in-Ok-write_lines-clause-done : goal.returns-in-Ok-write_lines-clause-done
returns-in-Ok-write_lines-clause-done g c = λ _.
    replayed c.args.format c.in-Ok.schedule c.args.bytes.now (g.K.Sink.written c.args.out.now) (g.K.Sink.written c.write_lines.new.out) c.in-Ok.ensures.ok (all_asked c.in-Ok.schedule.head c.in-Ok.schedule.events c.in-Ok.ensures.fits)
    c.in-Ok-text_of.ensures.whole c.in-Ok-text_of.ensures.known c.in-Ok-text_of.ensures.carried
    (subst (λ (bs : List ℕ). Appends (g.K.Sink.written c.args.out.now) (g.K.Sink.written c.write_lines.new.out) bs) (c.deref.ensures.value ∙ c.in-Ok-text_of.ensures.ok) c.in-Ok-write_lines.ensures.ok)

pub returns-clause-limit : goal.returns-clause-limit
returns-clause-limit g c = λ which at h.
    let e : c.in-Err.e ≡ schedule.Limit which at = limit_told c.in-Err.e which at (sym c.schedule_status.ensures ∙ h) in
    read_limit which at c.args.bytes.now (c.in-Err.ensures.limit which at (cc e))
