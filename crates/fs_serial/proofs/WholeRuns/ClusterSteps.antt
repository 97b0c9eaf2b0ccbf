-- Every event of every server keeps all that holds of the cluster.
use Rattle.std.proofs.Common.{◌≡◌, ℕ, refl}
use Rattle.std.specs.Prelude.{Some, slice_get}
use Rattle.fs_ident.specs.declared.actor.Session.{Session}
use Rattle.fs_msg.specs.declared.client_msg.ClientMsg.{ClientMsg}
use Rattle.fs_msg.specs.declared.client_msg.ClientMsg.TheVariants.{Ask, Renew, Release, Ship, Lead}
use Rattle.fs_msg.specs.declared.peer_msg.PeerMsg.{PeerMsg}
use Rattle.fs_msg.specs.declared.peer_msg.PeerMsg.TheVariants as peer
use Rattle.fs_server.specs.Step.{event_step}
use Rattle.fs_server.specs.declared.event.ServerEvent.{ServerEvent}
use Rattle.fs_server.specs.declared.event.ServerEvent.TheVariants as event
use Rattle.fs_server.specs.declared.state.Server.{Server}
use Rattle.fs_server.proofs.Splitting.{commit_splits}
use Rattle.fs_serial.specs.Cluster.{Cluster, IsThere, after_step}
use Rattle.fs_serial.specs.Conclusions.{PathsTell}
use Rattle.fs_serial.specs.Seen.{ClusterHolds}
use Rattle.fs_serial.proofs.Paths.KeptEvents.{step_kept}
use Rattle.fs_serial.proofs.Paths.Standing.{paths_stand}
use Rattle.fs_serial.proofs.Paths.StepsKeep.{step_keeps_paths}
use Rattle.fs_serial.proofs.Paths.TellCycles.{paths_tell}
use Rattle.fs_serial.proofs.Transactions.OtherEvents.{other_event}
use Rattle.fs_serial.proofs.WholeRuns.BegunEvents.{ServersKeepAll, StepKeepsAll, all_events}
use Rattle.fs_serial.proofs.WholeRuns.LedDones.{done_event}
use Rattle.fs_serial.proofs.WholeRuns.LedEvents.{decide_event, prepare_event}
use Rattle.fs_serial.proofs.WholeRuns.LedQuestions.{lead_event}
use Rattle.fs_serial.proofs.WholeRuns.LedVotes.{vote_event}

module _ (skew greatest k : ℕ) (c : Cluster) (s : Server) (at : slice_get c.servers k ≡ Some s) (h : ClusterHolds skew greatest c)
    (tell : PathsTell c) where
  client_keeps : (by : Session) (m : ClientMsg) → IsThere k (event.FromClient by m) c
      → ClusterHolds skew greatest (after_step k (event.FromClient by m) (event_step (event.FromClient by m) s) c)
  client_keeps by (Lead m) there = lead_event skew greatest k c s at h commit_splits by m there tell
  client_keeps by (Ask items dir) there = other_event skew greatest k c s at h (event.FromClient by (Ask items dir)) there tt
  client_keeps by (Renew pairs) there = other_event skew greatest k c s at h (event.FromClient by (Renew pairs)) there tt
  client_keeps by (Release pairs) there = other_event skew greatest k c s at h (event.FromClient by (Release pairs)) there tt
  client_keeps by (Ship entries) there = other_event skew greatest k c s at h (event.FromClient by (Ship entries)) there tt

  peer_keeps : (from : ℕ) (m : PeerMsg) → IsThere k (event.FromPeer from m) c
      → ClusterHolds skew greatest (after_step k (event.FromPeer from m) (event_step (event.FromPeer from m) s) c)
  peer_keeps from (peer.Parcel p) there = other_event skew greatest k c s at h (event.FromPeer from (peer.Parcel p)) there refl
  peer_keeps from (peer.Prepare m) there = prepare_event skew greatest k c s at h from m there
  peer_keeps from (peer.Vote m) there = vote_event skew greatest k c s at h commit_splits from m there tell
  peer_keeps from (peer.Decide m) there = decide_event skew greatest k c s at h from m there
  peer_keeps from (peer.Done m) there = done_event skew greatest k c s at h from m there
  peer_keeps from m there = other_event skew greatest k c s at h (event.FromPeer from m) there refl

  step_keeps : (e : ServerEvent) → IsThere k e c → ClusterHolds skew greatest (after_step k e (event_step e s) c)
  step_keeps (event.FromClient by m) there = client_keeps by m there
  step_keeps (event.FromPeer from m) there = peer_keeps from m there
  step_keeps event.Turn there = other_event skew greatest k c s at h event.Turn there tt
  step_keeps (event.Recall field) there = other_event skew greatest k c s at h (event.Recall field) there tt
  step_keeps (event.Move prefix to) there = other_event skew greatest k c s at h (event.Move prefix to) there tt

-- with what holds of paths, and the files that servers keep
step_stands : (e : ServerEvent) → StepKeepsAll e
step_stands e skew greatest k c s at w there = record {
  holds = step_keeps skew greatest k c s at w.holds (paths_tell c (paths_stand skew greatest c w.holds w.kept) w.paths) e there;
  paths = step_keeps_paths skew greatest k c s at w.holds w.kept w.paths e there;
  kept = step_kept skew greatest k c s at w.holds w.kept (paths_tell c (paths_stand skew greatest c w.holds w.kept) w.paths) e there;
}

pub server_keeps : ServersKeepAll
server_keeps = all_events step_stands
