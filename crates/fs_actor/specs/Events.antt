-- What a call of an event leaves, and what it tells of it.
use Rattle.std.specs.Prelude.{◌≡◌, [], None}
use Rattle.fs_ident.specs.declared.actor.Session.{Session}
use Rattle.fs_client.specs.declared.state.Client.{Client}
use Rattle.fs_server.specs.declared.state.Server.{Server}
use Rattle.fs_window.specs.Post.{Links}
use Rattle.fs_actor.specs.Actor.{ClientStep, ServerStep}
use Rattle.fs_actor.specs.Finished.{finished}
use Rattle.fs_actor.specs.Several.{ClientRun, ServerRun}
use Rattle.fs_actor.specs.declared.client_events.ClientEvent.{ClientEvent}
use Rattle.fs_actor.specs.declared.client_heard.ClientHeard.{ClientHeard}
use Rattle.fs_actor.specs.declared.client_packets.ClientTold.{ClientTold}
use Rattle.fs_actor.specs.declared.server_events.ServerTold.{ServerTold}
use Rattle.fs_actor.specs.declared.server_heard.ServerHeard.{ServerHeard}

-- ## An event of one message at most

-- the client of the session, which was this one, and its links are as the event leaves them, and this came of it
pub record ClientDid (s : Session) (c : Client) (x : ClientStep) (client : Client) (post : Links) (event : ClientEvent) : Type 0 where
  pub client_then : client ≡ x.client
  pub post_then : post ≡ x.post
  pub note : event.note ≡ x.note
  pub finished : event.finished ≡ finished s c x.admitted x.note
  pub packets : event.packets ≡ x.packets
  pub unspent : x.spent ≡ None

-- the same of a server
pub record ServerDid (x : ServerStep) (server : Server) (post : Links) (event : ServerTold) : Type 0 where
  pub server_then : server ≡ x.server
  pub post_then : post ≡ x.post
  pub admitted : event.admitted ≡ x.admitted
  pub packets : event.packets ≡ x.packets
  pub unspent : x.spent ≡ None

-- ## An event of several messages

-- the client and its links are as the event leaves them, and this came of it
pub record ClientTook (x : ClientRun) (client : Client) (post : Links) (told : ClientTold) : Type 0 where
  pub client_then : client ≡ x.client
  pub post_then : post ≡ x.post
  pub finished : told.finished ≡ x.finished
  pub packets : told.packets ≡ x.packets
  pub unspent : x.spent ≡ None

-- the same of a server
pub record ServerTook (x : ServerRun) (server : Server) (post : Links) (told : ServerTold) : Type 0 where
  pub server_then : server ≡ x.server
  pub post_then : post ≡ x.post
  pub admitted : told.admitted ≡ x.admitted
  pub packets : told.packets ≡ x.packets
  pub unspent : x.spent ≡ None

-- what was heard so far, with the client and the links as they are then
abbrev pub client_so_far : ClientHeard → Client → Links → ClientRun
client_so_far h c post = record {
  client = c;
  post = post;
  notes = h.notes;
  send = h.send;
  admitted = h.admitted;
  finished = h.finished;
  packets = [];
  spent = None;
}

-- the same of a server
abbrev pub server_so_far : ServerHeard → Server → Links → ServerRun
server_so_far h s post = record {
  server = s;
  post = post;
  notes = h.notes;
  send = h.send;
  admitted = h.admitted;
  packets = [];
  spent = None;
}
