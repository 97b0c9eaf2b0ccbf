-- All links of one actor.
use Rattle.std.specs.Prelude.{ℕ, ◌≡◌, ◌≤◌, Bool, true, List, [], length, map, flat_map, Option, Some, None, unwrap_or, false}
use Rattle.std.specs.FinMap.Entries.{find, put}
use Rattle.fs_ident.specs.In.{In}
use Rattle.fs_ident.specs.declared.actor.Peer.{Peer}
use Rattle.fs_frag.specs.Cut.{cut_of}
use Rattle.fs_frag.specs.Joined.{answers, held_by, joined_of}
use Rattle.fs_window.specs.declared.heard.Heard.{Heard}
use Rattle.fs_window.specs.declared.link.Link.{Link}
use Rattle.fs_window.specs.declared.packet.Packet.{Packet}
use Rattle.fs_window.specs.declared.sent.Sent.{Sent}
use Rattle.fs_window.specs.LinkEnd.{new_link_end, pushed_count, after_pushes, given_by, after_accept, due_of, after_due}
use Rattle.fs_window.specs.Packet.{packet_text}
use Rattle.fs_window.specs.Peers.{peer_cmp, same_peer, ByPeer, are_peers_in_order}

-- ---- one link

-- a new link, of this width
abbrev pub new_link : ℕ → Link
new_link width = record { window = new_link_end width; joiner = [] }

-- with one more message to send
abbrev pub link_pushed : Link → List ℕ → Link
link_pushed l message = record l { window = after_pushes l.window (cut_of message) }

-- the segments that a packet gives
abbrev pub given_on : Link → Packet → List (List ℕ)
given_on l p = given_by l.window p.body

-- once a packet has come
abbrev pub link_accepted : Link → Packet → Link
link_accepted l p = record { window = after_accept l.window p; joiner = held_by l.joiner (given_on l p) }

-- what a packet gives that gives no segment
abbrev pub no_segment : Heard
no_segment = record { fresh = 0; joined = [] }

-- what a packet gives
abbrev pub heard_on : Link → Packet → Heard
heard_on l p = record { fresh = length (given_on l p); joined = joined_of (answers l.joiner (given_on l p)) }

-- once all that is due was sent
abbrev pub link_sent : Link → Link
link_sent l = record l { window = after_due l.window }

-- ---- all links

pub record Links : Type 0 where
  -- whose links they are
  pub me : Peer
  -- how many segments may be on their way on each
  pub width : ℕ
  -- the link with each other actor, in order
  pub ends : ByPeer Link

-- what holds of all links of an actor
pub record AreLinks (s : Links) : Type 0 where
  pub wide : 1 ≤ s.width
  pub narrow : s.width ≤ 64
  pub ordered : are_peers_in_order s.ends ≡ true

-- no link
abbrev pub no_links : Peer → ℕ → Links
no_links me width = record { me = me; width = width; ends = [] }

-- the link with an actor, a new one where there is none
abbrev pub link_with : Links → Peer → Link
link_with s peer = unwrap_or (find peer_cmp peer s.ends) (new_link s.width)

-- this link with the actor
abbrev pub with_link : Links → Peer → Link → Links
with_link s peer l = record s { ends = put peer_cmp peer l s.ends }

-- how many segments were pushed to an actor, and were given of its
abbrev pub pushed_to : Links → Peer → ℕ
pushed_to s to = pushed_count (link_with s to).window

abbrev pub got_from : Links → Peer → ℕ
got_from s from = (link_with s from).window.got

-- a message is pushed to an actor
abbrev pub post_pushed : Links → Peer → List ℕ → Links
post_pushed s to message = with_link s to (link_pushed (link_with s to) message)

-- a packet of an actor comes
pub record Accepted : Type 0 where
  pub links : Links
  pub heard : Heard

abbrev pub post_accepted : Links → Peer → Packet → Accepted
post_accepted s from p = record { links = with_link s from (link_accepted (link_with s from) p); heard = heard_on (link_with s from) p }

-- the actor, if there is one, is this one
abbrev pub is_peer : Peer → Option Peer → Bool
is_peer peer None = false
is_peer peer (Some other) = same_peer peer other

-- the bytes of a packet from one actor to another
abbrev pub packet_sent : Peer → Peer → Packet → Sent
packet_sent me to p = record { from = me; to = to; bytes = packet_text p }

-- what goes to one actor
abbrev pub sent_on : Peer → Bool → Option Peer → Peer × Link → List Sent
sent_on me turn heard e = map (packet_sent me e.0) (due_of e.1.window turn (is_peer e.0 heard))

-- once all that is due was sent
abbrev pub links_sent : Links → Links
links_sent s = record s { ends = map (λ e. (e.0, link_sent e.1)) s.ends }

-- what goes to all actors, link by link
pub record Due : Type 0 where
  pub links : Links
  pub sent : List Sent

abbrev pub post_due : Links → Bool → Option Peer → Due
post_due s turn heard = record {
  links = links_sent s;
  sent = flat_map (sent_on s.me turn heard) s.ends;
}

-- what was sent is the text of a packet that was due on the link with its actor
pub record WasSent (s : Links) (turn : Bool) (heard : Option Peer) (x : Sent) : Type 0 where
  pub sender : x.from ≡ s.me
  pub packet : Packet
  pub due : In packet (due_of (link_with s x.to).window turn (is_peer x.to heard))
  pub text : x.bytes ≡ packet_text packet
