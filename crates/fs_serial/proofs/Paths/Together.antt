-- What holds of paths goes on to hold, whichever message of path leases comes, where paths are asked back, where files move between
-- servers, and in every other kind of step.
use Rattle.std.proofs.Common.{◌≡◌, ℕ, List, refl, subst}
use Rattle.std.specs.Prelude.{Option, Some, None, slice_get}
use Rattle.fs_ident.specs.declared.kind.Kind.TheVariants.{Dir}
use Rattle.fs_msg.specs.declared.peer_msg.PeerMsg.{PeerMsg}
use Rattle.fs_msg.specs.declared.peer_msg.PeerMsg.TheVariants.{Parcel as OfParcel, PathAsk}
use Rattle.fs_msg.specs.declared.refusal.Refusal.TheVariants as refusal
use Rattle.fs_msg.specs.declared.server_note.ServerNote.{ServerNote}
use Rattle.fs_msg.specs.declared.server_note.ServerNote.TheVariants as note
use Rattle.fs_parcel.specs.declared.error.MoveError.{MoveError}
use Rattle.fs_parcel.specs.declared.error.MoveError.TheVariants as move
use Rattle.fs_server.specs.Moves.{hands_over, installed, move_at}
use Rattle.fs_server.specs.PathSteps.{asks_back_in}
use Rattle.fs_server.specs.Server.{only_noted}
use Rattle.fs_server.specs.declared.event.ServerEvent.TheVariants.{FromPeer, Move}
use Rattle.fs_server.specs.declared.state.Server.{Server}
use Rattle.fs_serial.specs.Cluster.{Cluster, IsThere, after_step}
use Rattle.fs_serial.specs.Fresh.{made}
use Rattle.fs_serial.specs.PathLaws.{AskingBackKeeps, InstallKeepsPaths, MoveKeepsPaths, OtherStepsKeep, PathMessageKeeps, after_path}
use Rattle.fs_serial.specs.Paths.{PathsHold, PathsStand, SaysPath}
use Rattle.fs_serial.proofs.Moves.PathSteps.{refusal_here}
use Rattle.fs_serial.proofs.Paths.Asked.{AsksOfDirectories}
use Rattle.fs_serial.proofs.Paths.AskedBack.{asking_back_kept}
use Rattle.fs_serial.proofs.Paths.Given.{asks_of_directories}
use Rattle.fs_serial.proofs.Paths.HandedOver.{move_leaves, stay_leaves}
use Rattle.fs_serial.proofs.Paths.Installed.{installed_tokens, installed_true}
use Rattle.fs_serial.proofs.Paths.Messages.{message_kept, others_kept}
use Rattle.fs_serial.proofs.Paths.Others.{others_true}
use Rattle.fs_serial.proofs.Paths.Tokens.{TokensKept, tokens_of}
use Rattle.fs_serial.proofs.Paths.Truth.{AllTrue, asking_back_keeps_true, it_says, messages_keep_true}

hold : (c : Cluster) → TokensKept c → AllTrue c → PathsHold c
hold c t right = record { numbered = t.numbered; given = t.given; single = t.single; says = t.says; held = t.held; once = t.once; truth = right }

-- only the paths of directories are asked for farther up
directories : (c : Cluster) (k from : ℕ) (s : Server) (m : PeerMsg) → PathsStand c → PathsHold c → slice_get c.servers k ≡ Some s
    → IsThere k (FromPeer from m) c → (file dir : List ℕ) → m ≡ PathAsk file dir → AsksOfDirectories c s file dir
directories c k from s m stand h at there file dir is top above mine child free wanted =
    let said : made c.journal file ≡ Some Dir = subst (SaysPath c from k) is (it_says c k from m h there) in
    asks_of_directories c k s stand h at file dir said top above mine child free wanted

pub messages_keep : PathMessageKeeps
messages_keep c k from s m stand h at me there is =
    hold (after_path k from m s c)
    (message_kept c k from s m (tokens_of c h) at there is (directories c k from s m stand h at there))
    (messages_keep_true c k from s m stand h at there is)

pub asking_back_keeps : AskingBackKeeps
asking_back_keeps c k to s prefix n h at me =
    hold (after_step k (Move prefix to) (asks_back_in prefix n s) c)
    (asking_back_kept c k to s prefix n (tokens_of c h) at)
    (asking_back_keeps_true c k to s prefix n h at)

pub others_keep : OtherStepsKeep
others_keep c k e s x h at l =
    hold (after_step k e x c) (others_kept c k e s x (tokens_of c h) at l) (others_true c k e s x h at l)

-- ## Files that move between servers

pub installs_keep : InstallKeepsPaths
installs_keep c k from s p places h at there =
    hold (after_step k (FromPeer from (OfParcel p)) (only_noted (note.Installs p.prefix) (installed p s)) c)
    (installed_tokens c k from s p places h at there) (installed_true c k from s p places h at there)

pub moves_keep : MoveKeepsPaths
moves_keep c k to s prefix places h at = by (refusal_here prefix to s) refl
  where
    stays : (n : ServerNote) → PathsHold (after_step k (Move prefix to) (only_noted n s) c)
    stays n = others_keep c k (Move prefix to) s (only_noted n s) h at (stay_leaves c k to s prefix n at)

    by : (o : Option MoveError) → refusal_here prefix to s ≡ o → PathsHold (after_step k (Move prefix to) (move_at o prefix to s) c)
    by None may = others_keep c k (Move prefix to) s (hands_over prefix to s) h at (move_leaves c k to s prefix places at may)
    by (Some (move.Paths number)) e =
        asking_back_keeps c k to s prefix (note.Stays (refusal.Paths number)) h at (h.numbered k s at)
    by (Some (move.NotMine place owner)) e = stays (note.Stays (refusal.NotMine place owner))
    by (Some move.NoFile) e = stays (note.Stays refusal.NoFile)
    by (Some move.Same) e = stays (note.Stays refusal.Same)
    by (Some (move.Busy txn)) e = stays (note.Stays (refusal.Busy txn))
    by (Some move.Memory) e = stays (note.Stays refusal.NoFile)
