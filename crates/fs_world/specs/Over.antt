-- Why a session is over: it heard that a server refused an entry of its log, and before that a server did.
use Rattle.std.specs.Prelude.{ℕ, List, [], ◌∷◌, ◌++◌, Option, Some, None, option_map}
use Rattle.fs_ident.specs.In.{In}
use Rattle.fs_ident.specs.declared.actor.Peer.{Peer}
use Rattle.fs_ident.specs.declared.actor.Peer.TheVariants as peer
use Rattle.fs_ident.specs.declared.actor.LeaseNo.{LeaseNo}
use Rattle.fs_ident.specs.declared.actor.Session.{Session}
use Rattle.fs_msg.specs.declared.act.Act.TheVariants as act
use Rattle.fs_msg.specs.declared.client_note.ClientNote.TheVariants as client
use Rattle.fs_msg.specs.declared.end.End.{End}
use Rattle.fs_msg.specs.declared.end.End.TheVariants.{Ended}
use Rattle.fs_msg.specs.declared.note.Note.{Note}
use Rattle.fs_msg.specs.declared.note.Note.TheVariants as note
use Rattle.fs_msg.specs.declared.server_note.ServerNote.TheVariants as server
use Rattle.fs_schedule.specs.declared.event.Event.{Event}
use Rattle.fs_schedule.specs.declared.event.What.{What}
use Rattle.fs_window.specs.declared.sent.Sent.{Sent}
use Rattle.fs_world.specs.Refusals.{packet_delivered}
use Rattle.fs_world.specs.World.{step}
use Rattle.fs_world.specs.declared.form.Form.{Form}
use Rattle.fs_world.specs.declared.form.Form.TheVariants.{Direct, Served}

-- ## What is said of logs

pub data Said : Type 0 where
  -- a server answers a log of the session: so many entries were admitted, and it ends so
  Answered : Session → ℕ → End → Said
  -- the session hears such an answer
  Heard : Session → ℕ → End → Said
  -- the session tells its caller that it is over, since the entry of that number was refused
  IsOver : Session → ℕ → Said

abbrev pub of_session : Option Peer → (Session → Said) → List Said
of_session (Some (peer.Client by)) said = said by ∷ []
of_session who said = []

-- a note of an event of this actor, which a packet of that one brings, if any does
abbrev pub said_in : Option Peer → Option Peer → Note → List Said
said_in from who (note.Server (server.Admits count at gaps)) = of_session from (λ by. Answered by count at)
said_in from who (note.Client (client.Shipped count at)) = of_session who (λ by. Heard by count at)
said_in from who (note.Act (act.Over n)) = of_session who (λ by. IsOver by n)
said_in from who n = []

abbrev pub all_said : Option Peer → Option Peer → List Note → List Said
all_said from who [] = []
all_said from who (n ∷ ns) = said_in from who n ++ all_said from who ns

-- the actor whose packet the event tells
abbrev pub sender_in : Form → What → Option Peer
sender_in (Direct w) what = None
sender_in (Served w) what = option_map (λ (x : Sent). x.from) (packet_delivered w what)

abbrev pub said_at : Form → Event → List Said
said_at w e = all_said (sender_in w e.what) (step w e).outcome.who (step w e).outcome.notes

-- what the outcomes of these events say, in order, from this world on
abbrev pub said_from : Form → List Event → List Said
said_from w [] = []
said_from w (e ∷ es) = said_at w e ++ said_from (step w e).world es

-- ## Behind what it is said

-- the session heard that its entry of that number was refused
pub record HeardRefused (before : List Said) (by : Session) (n : ℕ) : Type 0 where
  pub count : ℕ
  pub lease : LeaseNo
  pub until : ℕ
  pub now : ℕ
  pub heard : In (Heard by count (Ended n lease until now)) before

-- a session is over only behind an answer that it heard, and hears only what a server answered it
abbrev pub IsCaused : List Said → Said → Type 0
IsCaused before (Answered by count at) = Unit {0}
IsCaused before (Heard by count at) = In (Answered by count at) before
IsCaused before (IsOver by n) = HeardRefused before by n

-- each of these, one after another, behind those before
abbrev pub AllCaused : List Said → List Said → Type 0
AllCaused before [] = Unit {0}
AllCaused before (x ∷ xs) = IsCaused before x × AllCaused (before ++ x ∷ []) xs
