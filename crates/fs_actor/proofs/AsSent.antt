-- What is heard of what was sent, and that what was read can be told to a core.
use Rattle.std.proofs.Common.{◌≡◌, ℕ, ◌≤◌, ◌^◌, List, [], ◌∷◌, ap, sym, ◌∙◌, subst, inl, inr}
use Rattle.std.specs.Prelude.{Option, Some, None, IfSome}
use Rattle.std.specs.List.{AllByRecursion}
use Rattle.fs_ident.specs.Ident.{IsId}
use Rattle.fs_ident.specs.declared.actor.Peer.{Peer}
use Rattle.fs_ident.specs.declared.actor.Peer.TheVariants.{Client, Server}
use Rattle.fs_frag.specs.declared.joined.Joined.{Joined}
use Rattle.fs_frag.specs.declared.joined.Joined.TheVariants.{Whole}
use Rattle.fs_msg.specs.Ranges.{FitsMessage, FitsRecord}
use Rattle.fs_msg.specs.Spelling.{message}
use Rattle.fs_msg.specs.declared.msg.Msg.{Msg}
use Rattle.fs_msg.specs.declared.msg.Msg.TheVariants as msg
use Rattle.fs_msg.specs.declared.peer_msg.PeerMsg.TheVariants.{Parcel}
use Rattle.fs_record.specs.declared.record.Record.{Record}
use Rattle.fs_server.specs.Step.{AreNumbersLeft, CanBeTold}
use Rattle.fs_wire.specs.Ranges.{FitsPair}
use Rattle.fs_actor.specs.Hearing.{event_of, message_in}
use Rattle.fs_actor.proofs.Whole.{read-again}

-- a message that came as it was sent is read
pub sent_read : (j : Joined) (m : Msg) → j ≡ Whole (message m) → FitsMessage m → message_in j ≡ Some m
sent_read j m e fits = ap message_in e ∙ read-again m fits

-- ## What was read can be told

numbers_left : (records : List (List ℕ × Record)) → AllByRecursion (FitsPair IsId FitsRecord) records → AreNumbersLeft records
numbers_left [] h e i = absurd i
numbers_left (r ∷ records) h e (inl same) = subst (λ (x : List ℕ × Record). (1 ≤ x.1.next) × (x.1.next ≤ 2 ^ 32)) (sym same) h.0.1.next
numbers_left (r ∷ records) h e (inr i) = numbers_left records h.1 e i

pub can_be_told : (from : Peer) (m : Option Msg) → IfSome m FitsMessage → IfSome (event_of from m) CanBeTold
can_be_told (Client s) (Some (msg.Client m)) fits = tt
can_be_told (Client s) (Some (msg.Answer a)) fits = tt
can_be_told (Client s) (Some (msg.Peer m)) fits = tt
can_be_told (Client s) None fits = tt
can_be_told (Server j) (Some (msg.Client m)) fits = tt
can_be_told (Server j) (Some (msg.Answer a)) fits = tt
can_be_told (Server j) (Some (msg.Peer (Parcel p))) fits = numbers_left p.records fits.records.1
can_be_told (Server j) (Some (msg.Peer m)) fits = tt
can_be_told (Server j) None fits = tt
