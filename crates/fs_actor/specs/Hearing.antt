-- What an actor hears of what its links join.
use Rattle.std.specs.Prelude.{ℕ, ◌==◌, List, [], ◌∷◌, Option, Some, None, is_some, if◌then◌else◌}
use Rattle.fs_ident.specs.declared.actor.Peer.{Peer}
use Rattle.fs_ident.specs.declared.actor.Peer.TheVariants.{Client, Server}
use Rattle.fs_frag.specs.declared.joined.Joined.{Joined}
use Rattle.fs_frag.specs.declared.joined.Joined.TheVariants.{Whole, Over}
use Rattle.fs_msg.specs.declared.answer.Answer.{Answer}
use Rattle.fs_msg.specs.declared.msg.Msg.{Msg}
use Rattle.fs_msg.specs.declared.msg.Msg.TheVariants as msg
use Rattle.fs_msg.specs.declared.note.Note.{Note}
use Rattle.fs_msg.specs.declared.note.Note.TheVariants as note
use Rattle.fs_server.specs.declared.event.ServerEvent.{ServerEvent}
use Rattle.fs_server.specs.declared.event.ServerEvent.TheVariants.{FromClient, FromPeer}
use Rattle.fs_window.specs.declared.heard.Heard.{Heard}
use Rattle.fs_window.specs.declared.packet.Packet.{Packet}
use Rattle.fs_actor.specs.Whole.{whole_message}

-- the message that all the bytes are, if they are one; more bytes than were announced are none
abbrev pub message_in : Joined → Option Msg
message_in (Whole bytes) = whole_message bytes
message_in Over = None

-- the message that a packet brought, if it brought one. (One segment at a time is on its way on a link, so no packet completes a
-- second one. Where links are wider, all that are joined are heard here, one after another.)
abbrev pub message_heard : List Joined → Option Msg
message_heard [] = None
message_heard (j ∷ js) = message_in j

-- ## Which messages an actor hears

-- a client hears answers
abbrev pub answer_of : Option Msg → Option Answer
answer_of (Some (msg.Answer a)) = Some a
answer_of m = None

abbrev pub answer_heard : List Joined → Option Answer
answer_heard joined = answer_of (message_heard joined)

-- of servers alone: the server's number and its answer
abbrev pub answer_from : Peer → Option Msg → Option (ℕ × Answer)
answer_from (Server k) (Some (msg.Answer a)) = Some (k, a)
answer_from from m = None

-- a server hears the questions of a session, and what another server hands over
abbrev pub event_of : Peer → Option Msg → Option ServerEvent
event_of (Client s) (Some (msg.Client m)) = Some (FromClient s m)
event_of (Server j) (Some (msg.Peer m)) = Some (FromPeer j m)
event_of from m = None

abbrev pub event_heard : Peer → List Joined → Option ServerEvent
event_heard from joined = event_of from (message_heard joined)

-- ## What is noted where it hears none

-- the packet completed no message
abbrev pub quiet_note : Heard → Note
quiet_note h = if h.fresh == 0 then note.None else note.Part

-- what was joined is no message that the actor hears
abbrev pub silent_note : List Joined → Heard → Note
silent_note [] h = quiet_note h
silent_note (j ∷ js) h = note.Strange

abbrev pub unheard_note : Heard → Note
unheard_note h = silent_note h.joined h

-- ## Who is answered

-- whoever sent a packet with a body was heard
abbrev pub heard_in : Peer → Packet → Option Peer
heard_in from p = if is_some p.body then Some from else None
