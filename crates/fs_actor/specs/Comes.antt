-- A packet of any actor comes to a client.
use Rattle.std.specs.Prelude.{ℕ, false, Option}
use Rattle.fs_ident.specs.declared.actor.Peer.{Peer}
use Rattle.fs_ident.specs.declared.actor.Peer.TheVariants.{Server, Client}
use Rattle.fs_window.specs.Post.{post_accepted}
use Rattle.fs_window.specs.declared.heard.Heard.{Heard}
use Rattle.fs_window.specs.declared.packet.Packet.{Packet}
use Rattle.fs_actor.specs.Actor.{ClientSide, ClientStep, client_goes, client_hears}
use Rattle.fs_actor.specs.Hearing.{answer_heard, heard_in, unheard_note}

-- a client hears servers; of another client its links take the packet, and what that joined is strange
abbrev pub client_took : ℕ → Peer → Option Peer → Heard → ClientSide → ClientStep
client_took now (Server k) heard h x = client_hears now k heard h (answer_heard h.joined) x
client_took now (Client s) heard h x = client_goes false heard (unheard_note h) x

-- a packet of the actor comes to it
abbrev pub client_comes : ℕ → Peer → Packet → ClientSide → ClientStep
client_comes now from p x =
    client_took now from (heard_in from p) (post_accepted x.post from p).heard
    (record { client = x.client; post = (post_accepted x.post from p).links })
