-- A server that leads an operation steps as the server that has all does.
use Rattle.std.proofs.Common.{◌≡◌, ℕ, refl}
use Rattle.std.specs.Prelude.{Some, slice_get}
use Rattle.fs_ident.specs.declared.actor.Session.{Session}
use Rattle.fs_msg.specs.declared.client_msg.ClientMsg.TheVariants.{Lead}
use Rattle.fs_msg.specs.declared.lead.Lead.{Lead as ToLead}
use Rattle.fs_record.specs.declared.led_end.Why.{Why}
use Rattle.fs_server.specs.Leads.{refuses}
use Rattle.fs_server.specs.declared.event.ServerEvent.TheVariants.{FromClient}
use Rattle.fs_server.specs.declared.state.Server.{Server}
use Rattle.fs_serial.specs.Cluster.{Cluster}
use Rattle.fs_serial.specs.Places.{PlacesHold}
use Rattle.fs_serial.specs.Seen.{with_all}
use Rattle.fs_serial.proofs.Places.OtherPlaces.{IsApart, Rest, itself, joined}
use Rattle.fs_serial.proofs.Places.ClusterPlaces.{IsBetween, between}
use Rattle.fs_serial.proofs.OneServer.SameStep.{IsSameStep, apart, more, stepped}
use Rattle.fs_serial.proofs.OneServer.Sim.{IsSim}

module _ (rest : Rest) (s : Server) (by : Session) (m : ToLead) (a : IsApart rest s) where
  refuse_sim : (w : Why) → IsSim rest s (refuses by w (joined rest s)) (refuses by w s)
  refuse_sim w = record { out = refl; server = refl; apart = a; self = itself s; quiet = λ k. refl }

module _ (k : ℕ) (c : Cluster) (s : Server) (by : Session) (m : ToLead) (at : slice_get c.servers k ≡ Some s) (places : PlacesHold c) where
  b : IsBetween c.servers k s
  b = between c.servers k s at

  pub refuse_same : (w : Why) → IsSameStep k (FromClient by (Lead m)) s (refuses by w s) (refuses by w (with_all s c)) c
  refuse_same w = stepped k c s places b (FromClient by (Lead m)) (λ in_flight. refl) (refuses by w) (refuses by w s) (refuse_sim (more k c s places b) s by m (apart k c s places b) w)
