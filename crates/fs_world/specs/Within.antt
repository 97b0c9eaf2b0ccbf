-- The limits within which an event is carried out: all numbers that messages bear, and their lengths, are of 64 bits. Definitions
-- alone have no such bound, and beyond it bytes do not tell a number.
use Rattle.std.specs.Prelude.{◌≡◌, ℕ, ◌<◌, ◌^◌, List, [], ◌∷◌, length, Some, None}
use Rattle.std.specs.FinMap.{get}
use Rattle.fs_ident.specs.In.{In}
use Rattle.fs_ident.specs.declared.actor.Session.{Session}
use Rattle.fs_msg.specs.Ranges.{FitsMessage}
use Rattle.fs_msg.specs.Spelling.{message}
use Rattle.fs_msg.specs.declared.answer.Answer.{Answer}
use Rattle.fs_msg.specs.declared.client_msg.ClientMsg.{ClientMsg}
use Rattle.fs_msg.specs.declared.msg.Msg.{Msg}
use Rattle.fs_msg.specs.declared.msg.Msg.TheVariants as msg
use Rattle.fs_schedule.specs.declared.event.Event.{Event}
use Rattle.fs_serial.specs.declared.in_flight.InFlight.{InFlight}
use Rattle.fs_world.specs.Served.{step_of}
use Rattle.fs_world.specs.World.{FitsServed, step}
use Rattle.fs_world.specs.declared.form.Form.{Form}
use Rattle.fs_world.specs.declared.form.Form.TheVariants as form
use Rattle.fs_world.specs.declared.servers.session_state.SessionState.{SessionState}
use Rattle.fs_world.specs.declared.servers.world.Served.{Served}

-- the message has fewer than 2^64 bytes, and all its numbers are in range
pub record IsInRange (m : Msg) : Type 0 where
  pub short : length (message m) < 2 ^ 64
  pub fits : FitsMessage m

-- so has each that is on its way
pub record AllInRange (w : Served) : Type 0 where
  pub up : (s : Session) (state : SessionState) (m : ℕ × ClientMsg) → get w.sessions s.0 ≡ Some state → In m state.up
      → IsInRange (msg.Client m.1)
  pub down : (s : Session) (state : SessionState) (m : ℕ × Answer) → get w.sessions s.0 ≡ Some state → In m state.down
      → IsInRange (msg.Answer m.1)
  pub in_flight : (f : InFlight) → In f w.in_flight → IsInRange (msg.Peer f.message)

-- the event may happen to the world, raises no counter above its end, and leaves none but such messages on their way
pub record IsWithinLimits (w : Served) (e : Event) : Type 0 where
  pub fits : FitsServed (length w.servers) e.what
  pub unspent : (step_of w e.reading e.what).spent ≡ None
  pub messages : AllInRange (step_of w e.reading e.what).world

-- in the direct form nothing is sent
abbrev pub IsWithin : Form → Event → Type 0
IsWithin (form.Direct w) e = Unit {0}
IsWithin (form.Served w) e = IsWithinLimits w e

-- so is each of these events, one after another, from this world on
abbrev pub AllWithin : Form → List Event → Type 0
AllWithin w [] = Unit {0}
AllWithin w (e ∷ es) = IsWithin w e × AllWithin (step w e).world es
