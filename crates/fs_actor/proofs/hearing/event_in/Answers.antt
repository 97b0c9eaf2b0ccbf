use Rattle.std.proofs.Common.{sym, subst}
use Rattle.std.specs.Prelude.{Option, IfSome}
use Rattle.fs_server.specs.Step.{CanBeTold}
use Rattle.fs_server.specs.declared.event.ServerEvent.{ServerEvent}
use Rattle.fs_actor.proofs.AsSent.{can_be_told}
use Rattle.fs_actor.proofs.hearing.event_in.Goals as goal

pub returns-clause-told : goal.returns-clause-told
returns-clause-told c =
    subst (λ (o : Option ServerEvent). IfSome o CanBeTold) (sym c.event_of.ensures) (can_be_told c.args.from c.in_ok-message_in.field-0 c.in_ok-message_in.ensures.fits)
