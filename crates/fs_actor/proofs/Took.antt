-- What a call of an event of one message at most leaves is what the event of several leaves.
use Rattle.fs_ident.specs.declared.actor.Session.{Session}
use Rattle.fs_client.specs.declared.state.Client.{Client}
use Rattle.fs_server.specs.declared.state.Server.{Server}
use Rattle.fs_window.specs.Post.{Links}
use Rattle.fs_actor.specs.Actor.{ClientStep, ServerStep}
use Rattle.fs_actor.specs.Events.{ClientDid, ClientTook, ServerDid, ServerTook}
use Rattle.fs_actor.specs.Laws.{client_alone, server_alone}
use Rattle.fs_actor.specs.declared.client_events.ClientEvent.{ClientEvent}
use Rattle.fs_actor.specs.declared.server_events.ServerTold.{ServerTold}

pub client_took_alone : (s : Session) (c : Client) (x : ClientStep) (client : Client) (post : Links) (event : ClientEvent)
    → ClientDid s c x client post event → ClientTook (client_alone s c x) client post (record { finished = event.finished; packets = event.packets })
client_took_alone s c x client post event h = record {
  client_then = h.client_then;
  post_then = h.post_then;
  finished = h.finished;
  packets = h.packets;
  unspent = h.unspent;
}

pub server_took_alone : (x : ServerStep) (server : Server) (post : Links) (told : ServerTold) → ServerDid x server post told → ServerTook (server_alone x) server post told
server_took_alone x server post told h = record {
  server_then = h.server_then;
  post_then = h.post_then;
  admitted = h.admitted;
  packets = h.packets;
  unspent = h.unspent;
}
