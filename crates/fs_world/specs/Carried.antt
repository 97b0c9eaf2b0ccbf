-- What the links of a world give: whatever was sent is a packet, and what it joins where it comes are the first messages that are on
-- their way between the two, in order and as they were sent.
use Rattle.std.specs.Prelude.{◌≡◌, ℕ, List, [], ◌∷◌, map, filter, slice_get, Option, Some, None, option_map}
use Rattle.std.specs.FinMap.{get}
use Rattle.fs_ident.specs.In.{In}
use Rattle.fs_ident.specs.declared.actor.Peer.{Peer}
use Rattle.fs_ident.specs.declared.actor.Peer.TheVariants.{Server, Client}
use Rattle.fs_frag.specs.declared.joined.Joined.{Joined}
use Rattle.fs_frag.specs.declared.joined.Joined.TheVariants.{Whole}
use Rattle.fs_msg.specs.Ranges.{FitsMessage}
use Rattle.fs_msg.specs.Spelling.{message}
use Rattle.fs_msg.specs.declared.answer.Answer.{Answer}
use Rattle.fs_msg.specs.declared.client_msg.ClientMsg.{ClientMsg}
use Rattle.fs_msg.specs.declared.msg.Msg.{Msg}
use Rattle.fs_msg.specs.declared.msg.Msg.TheVariants as msg
use Rattle.fs_schedule.specs.declared.event.Event.{Event}
use Rattle.fs_serial.specs.Cluster.{is_between, is_with}
use Rattle.fs_serial.specs.declared.in_flight.InFlight.{InFlight}
use Rattle.fs_window.specs.Post.{Links, post_accepted}
use Rattle.fs_window.specs.Reading.{packet_at}
use Rattle.fs_window.specs.declared.packet.Packet.{Packet}
use Rattle.fs_window.specs.declared.sent.Sent.{Sent}
use Rattle.fs_world.specs.World.{step}
use Rattle.fs_world.specs.declared.form.Form.{Form}
use Rattle.fs_world.specs.declared.form.Form.TheVariants as form
use Rattle.fs_world.specs.declared.servers.session_state.SessionState.{SessionState}
use Rattle.fs_world.specs.declared.servers.world.Served.{Served}

-- ## Who there is, and what is on its way between two

abbrev pub state_post : Option SessionState → Option Links
state_post state = option_map (λ (x : SessionState). x.post) state

-- the links of an actor, if there is one: of a session that has joined, or of a server
abbrev pub post_of : Served → Peer → Option Links
post_of w (Client s) = state_post (get w.sessions s.0)
post_of w (Server k) = slice_get w.posts k

abbrev pub ups_of : ℕ → Option SessionState → List Msg
ups_of k None = []
ups_of k (Some state) = map (λ (m : ℕ × ClientMsg). msg.Client m.1) (filter (is_with k) state.up)

abbrev pub downs_of : ℕ → Option SessionState → List Msg
downs_of k None = []
downs_of k (Some state) = map (λ (m : ℕ × Answer). msg.Answer m.1) (filter (is_with k) state.down)

abbrev pub flying_between : ℕ → ℕ → List InFlight → List Msg
flying_between j k in_flight = map (λ (f : InFlight). msg.Peer f.message) (filter (is_between j k) in_flight)

-- the messages from one actor to another, in order
abbrev pub between : Served → Peer → Peer → List Msg
between w (Client s) (Server k) = ups_of k (get w.sessions s.0)
between w (Server k) (Client s) = downs_of k (get w.sessions s.0)
between w (Server j) (Server k) = flying_between j k w.in_flight
between w (Client s) (Client t) = []

-- ## What a packet gives

-- what is joined are the first of these messages, in order, each as it was sent, and each can be read
abbrev pub AreFirstOf : List Joined → List Msg → Type 0
AreFirstOf [] messages = Unit {0}
AreFirstOf (j ∷ js) [] = ⊥
AreFirstOf (j ∷ js) (m ∷ ms) = ((j ≡ Whole (message m)) × FitsMessage m) × AreFirstOf js ms

-- what a packet of the actor joins at these links, if there are any
abbrev pub joined_at : Option Links → Peer → Packet → List Joined
joined_at None from p = []
joined_at (Some post) from p = (post_accepted post from p).heard.joined

-- what went from one actor to another is a packet, and gives there the first messages between the two
abbrev pub GivesFirst : Served → Peer → Peer → Option Packet → Type 0
GivesFirst w from to None = ⊥
GivesFirst w from to (Some p) = AreFirstOf (joined_at (post_of w to) from p) (between w from to)

-- whatever was sent, however often it is told and however late
abbrev pub Carries : Served → Type 0
Carries w = (x : Sent) → In x w.packets.sent → GivesFirst w x.from x.to (packet_at x.bytes)

-- in the direct form nothing is sent
abbrev pub LinksCarry : Form → Type 0
LinksCarry (form.Direct w) = Unit {0}
LinksCarry (form.Served w) = Carries w

-- before each of these events, one after another, from this world on
abbrev pub AllCarry : Form → List Event → Type 0
AllCarry w [] = Unit {0}
AllCarry w (e ∷ es) = LinksCarry w × AllCarry (step w e).world es
