-- Whichever message of path leases a server takes, and where it asks paths back, all leases stay true.
use Rattle.std.proofs.Common.{◌≡◌, ℕ, List, refl}
use Rattle.std.specs.Prelude.{Some, slice_get}
use Rattle.fs_ident.specs.In.{In}
use Rattle.fs_ident.proofs.Passing.{found}
use Rattle.fs_msg.specs.declared.peer_msg.PeerMsg.{PeerMsg}
use Rattle.fs_msg.specs.declared.peer_msg.PeerMsg.TheVariants.{PathAsk, PathGrant, PathNo as Denied, PathRecall, PathRelease}
use Rattle.fs_msg.specs.declared.server_note.ServerNote.{ServerNote}
use Rattle.fs_path.specs.Leases.{PathLease}
use Rattle.fs_server.specs.Moves.{peer_step}
use Rattle.fs_server.specs.PathSteps.{asks_back_in}
use Rattle.fs_server.specs.declared.event.ServerEvent.TheVariants.{FromPeer, Move}
use Rattle.fs_server.specs.declared.state.Server.{Server}
use Rattle.fs_serial.specs.Cluster.{Cluster, InFlight, IsThere, after_step, is_between}
use Rattle.fs_serial.specs.PathLaws.{IsPathMessage, after_path}
use Rattle.fs_serial.specs.Paths.{IsTruePath, PathsHold, PathsStand, SaysPath}
use Rattle.fs_serial.specs.Runs.{held_by}
use Rattle.fs_serial.proofs.Paths.Given.{asked_true, came_true, refused_true}
use Rattle.fs_serial.proofs.Paths.Returned.{given_back_true, recalled_true, released_true}
use Rattle.fs_serial.proofs.Paths.SameSpace.{KeepsTrue, asking_back_step, path_step, path_step_true, path_taken}

-- all leases that servers gave out are true
abbrev pub AllTrue : Cluster → Type 0
AllTrue c = (s : Server) → In s c.servers → (l : PathLease) → In l s.paths.issued → IsTruePath (held_by c) c.journal s l

-- a message that is on its way says what it may
pub it_says : (c : Cluster) (k from : ℕ) (m : PeerMsg) → PathsHold c → IsThere k (FromPeer from m) c → SaysPath c from k m
it_says c k from m h there =
    let it : InFlight = record { from = from; to = k; message = m } in
    h.says it (found (is_between from k) c.in_flight it there).0

own_true : (c : Cluster) (k from : ℕ) (s : Server) (m : PeerMsg) → PathsStand c → PathsHold c → slice_get c.servers k ≡ Some s → IsPathMessage m
    → SaysPath c from k m → KeepsTrue c (peer_step from m s)
own_true c k from s (PathAsk file dir) stand h at i says = asked_true c k s stand h at from file dir says
own_true c k from s (PathGrant number file path) stand h at i says = came_true c k s stand h at from number file path
own_true c k from s (Denied file w) stand h at i says = refused_true c k s stand h at file w
own_true c k from s (PathRecall number) stand h at i says = recalled_true c k s h at number
own_true c k from s (PathRelease number) stand h at i says = released_true c k s h at from number
own_true c k from s m stand h at i says = absurd i

pub messages_keep_true : (c : Cluster) (k from : ℕ) (s : Server) (m : PeerMsg) → PathsStand c → PathsHold c → slice_get c.servers k ≡ Some s
    → IsThere k (FromPeer from m) c → IsPathMessage m → AllTrue (after_path k from m s c)
messages_keep_true c k from s m stand h at there i =
    path_step_true c k (FromPeer from m) s (peer_step from m s) h at (path_taken k from m c i there) (path_step from m s i)
    (own_true c k from s m stand h at i (it_says c k from m h there))

pub asking_back_keeps_true : (c : Cluster) (k to : ℕ) (s : Server) (prefix : List ℕ) (n : ServerNote) → PathsHold c → slice_get c.servers k ≡ Some s
    → AllTrue (after_step k (Move prefix to) (asks_back_in prefix n s) c)
asking_back_keeps_true c k to s prefix n h at = path_step_true c k (Move prefix to) s (asks_back_in prefix n s) h at (record { parcels = refl; effects = refl })
    (asking_back_step prefix n s) (given_back_true c k s h at prefix n)
