-- No message of path leases, and no move, lets go of a file that transactions keep.
use Rattle.std.proofs.Common.{◌≡◌, ◌==◌, ℕ, Bool, true, false, List, cond, refl}
use Rattle.std.specs.Prelude.{Option, Some, None}
use Rattle.fs_ident.specs.declared.actor.PathNo.{PathNo}
use Rattle.fs_ident.specs.declared.actor.TxnNo.{TxnNo}
use Rattle.fs_field.specs.declared.path.PathAnswer.{PathAnswer}
use Rattle.fs_field.specs.declared.path.PathAnswer.TheVariants as found
use Rattle.fs_msg.specs.declared.peer_msg.PeerMsg.{PeerMsg}
use Rattle.fs_msg.specs.declared.peer_msg.PeerMsg.TheVariants as peer
use Rattle.fs_parcel.specs.declared.error.MoveError.{MoveError}
use Rattle.fs_parcel.specs.declared.error.MoveError.TheVariants as move
use Rattle.fs_path.specs.Returns.{after_recalled, recalled}
use Rattle.fs_path.specs.Tables.{frozen_for, holds, issued_to}
use Rattle.fs_path.specs.declared.recalled.Recalled.{Recalled}
use Rattle.fs_path.specs.declared.recalled.Recalled.TheVariants.{Release, Down, Unheld}
use Rattle.fs_record.specs.declared.led_end.Why.{Why}
use Rattle.fs_record.specs.declared.led_end.Why.TheVariants as why
use Rattle.fs_server.specs.Moves.{move_at, peer_step}
use Rattle.fs_server.specs.PathSteps.{answers_path, dir_here, goes_down, has_child, is_out_to, is_same_dir, keeps_path, last_dir, moved_path}
use Rattle.fs_server.specs.PathSteps.{path_ask_step, path_grant_step, path_here, path_no_step, path_release_step, unless_kept, without_asking}
use Rattle.fs_server.specs.Server.{Stepped, is_mine}
use Rattle.fs_server.specs.declared.state.Server.{Server}
use Rattle.fs_serial.specs.PathLaws.{IsPathMessage}

-- the same is kept
abbrev pub SameFrozen : Server → Stepped → Type 0
SameFrozen s x = x.server.paths.frozen ≡ s.paths.frozen

either : (s : Server) (b : Bool) (x y : Stepped) → SameFrozen s x → SameFrozen s y → SameFrozen s (cond b x y)
either s true x y p q = p
either s false x y p q = q

-- ## A path is asked for

answered : (from : ℕ) (file : List ℕ) (a : PathAnswer) (s : Server) → SameFrozen s (answers_path from file a s)
answered from file (found.Wanted top dir) s = refl
answered from file (found.Frozen f txn) s = refl
answered from file (found.Path above) s = refl

unless_so : (from : ℕ) (file dir : List ℕ) (o : Option TxnNo) (s : Server) → SameFrozen s (unless_kept from file dir o s)
unless_so from file dir (Some txn) s = refl
unless_so from file dir None s = answered from file (path_here s dir) s

asked : (from : ℕ) (file dir : List ℕ) (s : Server) → SameFrozen s (path_ask_step from file dir s)
asked from file dir s =
    either s (is_mine s dir) _ _
    (either s (has_child s.records dir file) _ _ (unless_so from file dir (frozen_for file s.paths.frozen) s) refl) refl

-- ## A path comes, or is denied

kept_so : (b : Bool) (from : ℕ) (number : PathNo) (file : List ℕ) (path : List (List ℕ)) (s : Server)
    → SameFrozen s (keeps_path b from number file path (without_asking file s))
kept_so true from number file path s = refl
kept_so false from number file path s = refl

came : (from : ℕ) (number : PathNo) (file : List ℕ) (path : List (List ℕ)) (s : Server)
    → SameFrozen s (path_grant_step from number file path s)
came from number file path s =
    either s (holds number s.paths.held) _ _ refl (kept_so (is_same_dir (dir_here s.records file) (last_dir path)) from number file path s)

sought : (file : List ℕ) (w : Why) (to : ℕ) (o : Option (List ℕ)) (s : Server) → SameFrozen s (moved_path file w to o s)
sought file w to None s = refl
sought file w to (Some dir) s = either s (to == s.me) _ _ refl refl

denied : (file : List ℕ) (w : Why) (s : Server) → SameFrozen s (path_no_step file w s)
denied file (why.Moved prefix to) s = sought file (why.Moved prefix to) to (dir_here s.records file) s
denied file w s = refl

-- ## Paths go back

down : (number : PathNo) (r : Recalled) (s : Server) → SameFrozen s (goes_down number r (record s { paths = after_recalled number s.paths }))
down number (Release to) s = refl
down number (Down leases) s = refl
down number Unheld s = refl

back : (from : ℕ) (number : PathNo) (s : Server) → SameFrozen s (path_release_step from number s)
back from number s = either s (is_out_to from (issued_to number s.paths.issued)) _ _ refl refl

pub message_frozen : (from : ℕ) (m : PeerMsg) (s : Server) → IsPathMessage m → SameFrozen s (peer_step from m s)
message_frozen from (peer.PathAsk file dir) s is = asked from file dir s
message_frozen from (peer.PathGrant number file path) s is = came from number file path s
message_frozen from (peer.PathNo file w) s is = denied file w s
message_frozen from (peer.PathRecall number) s is = down number (recalled number s.paths) s
message_frozen from (peer.PathRelease number) s is = back from number s
message_frozen from m s is = absurd is

-- ## A move, whether it is made or not

pub move_frozen : (o : Option MoveError) (prefix : List ℕ) (to : ℕ) (s : Server) → SameFrozen s (move_at o prefix to s)
move_frozen None prefix to s = refl
move_frozen (Some (move.Paths number)) prefix to s = refl
move_frozen (Some (move.NotMine x at)) prefix to s = refl
move_frozen (Some move.NoFile) prefix to s = refl
move_frozen (Some move.Same) prefix to s = refl
move_frozen (Some (move.Busy txn)) prefix to s = refl
move_frozen (Some move.Memory) prefix to s = refl
