-- A move that nothing refuses is made.
use Rattle.std.proofs.Common.{◌≡◌, ℕ, List, [], ◌∷◌, refl, sym, subst}
use Rattle.std.specs.Prelude.{Option, None}
use Rattle.fs_ident.specs.declared.actor.Peer.TheVariants as peer
use Rattle.fs_msg.specs.declared.msg.Msg.TheVariants as msg
use Rattle.fs_msg.specs.declared.peer_msg.PeerMsg.TheVariants.{Parcel}
use Rattle.fs_msg.specs.declared.server_note.ServerNote.TheVariants as note
use Rattle.fs_parcel.specs.Parcel.{move_refusal, parcel_of}
use Rattle.fs_parcel.specs.declared.error.MoveError.{MoveError}
use Rattle.fs_path.specs.Tables.{first_in}
use Rattle.fs_server.specs.Moves.{move_at}
use Rattle.fs_server.specs.Server.{Stepped, begun}
use Rattle.fs_server.specs.Step.{step}
use Rattle.fs_server.specs.declared.event.ServerEvent.TheVariants.{Move}
use Rattle.fs_server.specs.declared.state.Server.{Server}

abbrev IsMade : Server → List ℕ → ℕ → Stepped → Type 0
IsMade s prefix to x = (x.out.note ≡ note.Moves prefix to) × (x.out.send ≡ (peer.Server to, msg.Peer (Parcel (parcel_of s.records s.rows s.map s.me prefix))) ∷ [])

made_at : (s : Server) (prefix : List ℕ) (to : ℕ) (o : Option MoveError) → o ≡ None → IsMade s prefix to (move_at o prefix to s)
made_at s prefix to o none = subst (λ (x : Option MoveError). IsMade s prefix to (move_at x prefix to s)) (sym none) (refl, refl)

pub move_made : (s : Server) (now : ℕ) (prefix : List ℕ) (to : ℕ) → move_refusal (begun now s).records (begun now s).rows s.map s.me prefix to (first_in s.map s.me prefix s.paths) ≡ None → IsMade (begun now s) prefix to (step s now (Move prefix to))
move_made s now prefix to none = made_at (begun now s) prefix to (move_refusal (begun now s).records (begun now s).rows s.map s.me prefix to (first_in s.map s.me prefix s.paths)) none
