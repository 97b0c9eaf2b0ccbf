-- What the laws of several messages say.
use Rattle.std.specs.Prelude.{◌∷◌, []}
use Rattle.fs_actor.specs.Actor.{ClientStep, ServerStep}
use Rattle.fs_actor.specs.Finished.{finished}
use Rattle.fs_actor.specs.Listed.{listed}
use Rattle.fs_actor.specs.Several.{ClientRun, ServerRun}
use Rattle.fs_client.specs.declared.state.Client.{Client}
use Rattle.fs_ident.specs.declared.actor.Session.{Session}

-- an event of one message, of a session whose client this was, among those of several
abbrev pub client_alone : Session → Client → ClientStep → ClientRun
client_alone s c x = record {
  client = x.client;
  post = x.post;
  notes = x.note ∷ [];
  send = listed x.send;
  admitted = listed x.admitted;
  finished = finished s c x.admitted x.note;
  packets = x.packets;
  spent = x.spent;
}

abbrev pub server_alone : ServerStep → ServerRun
server_alone x = record {
  server = x.server;
  post = x.post;
  notes = x.note ∷ [];
  send = x.send;
  admitted = x.admitted;
  packets = x.packets;
  spent = x.spent;
}
