-- Where path leases are in the way of a part, they are asked back: by messages of path leases alone, which speak of no transaction.
use Rattle.std.proofs.Common.{◌≡◌, ℕ, List, [], ◌∷◌, refl, sym, subst, inl, inr}
use Rattle.std.specs.Prelude.{Option, Some, None}
use Rattle.fs_ident.specs.In.{In}
use Rattle.fs_ident.specs.declared.actor.PathNo.{PathNo}
use Rattle.fs_ident.specs.declared.actor.Peer.{Peer}
use Rattle.fs_ident.specs.declared.actor.Peer.TheVariants.{Client as OfSession, Server as OfServer}
use Rattle.fs_ident.specs.declared.actor.Session.{Session}
use Rattle.fs_field.specs.declared.used.Part.{Part}
use Rattle.fs_field.specs.declared.vote.Vote.{Vote}
use Rattle.fs_field.specs.declared.vote.Vote.TheVariants.{Yes, Ended, Moved, PathsOut}
use Rattle.fs_msg.specs.declared.msg.Msg.{Msg}
use Rattle.fs_msg.specs.declared.msg.Msg.TheVariants as msg
use Rattle.fs_msg.specs.declared.peer_msg.PeerMsg.{PeerMsg}
use Rattle.fs_msg.specs.declared.peer_msg.PeerMsg.TheVariants as peer
use Rattle.fs_path.specs.Leases.{goes_over}
use Rattle.fs_path.specs.Returns.{recalls}
use Rattle.fs_server.specs.Follows.{path_recalls, recalls_for, recalls_over}
use Rattle.fs_server.specs.declared.state.Server.{Server}
use Rattle.fs_serial.specs.Cluster.{Lines, in_flight_from, parcels_of, with_sent}
use Rattle.fs_serial.specs.PathLaws.{IsPathMessage}
use Rattle.fs_serial.specs.Words.{decided_among, decided_by, telling_of}
use Rattle.fs_serial.proofs.Moves.PathSteps.{ArePathSends, none_handed, none_worded, recalls_sent}

-- ## What is sent

-- a server is asked for a path lease back
abbrev pub IsPathRecall : Peer × Msg → Type 0
IsPathRecall (OfServer to, msg.Peer (peer.PathRecall number)) = Unit {0}
IsPathRecall x = ⊥

each_recall : (leases : List (ℕ × PathNo)) (x : Peer × Msg) → In x (path_recalls leases) → IsPathRecall x
each_recall [] x i = absurd i
each_recall (y ∷ rest) x (inl e) = subst IsPathRecall (sym e) tt
each_recall (y ∷ rest) x (inr i) = each_recall rest x i

each_over : (s : Server) (o : Option (List ℕ)) (x : Peer × Msg) → In x (recalls_over s o) → IsPathRecall x
each_over s None x i = absurd i
each_over s (Some file) x i = each_recall (recalls (goes_over file) s.paths.issued) x i

pub recalls_are : (v : Vote) (s : Server) (p : Part) (x : Peer × Msg) → In x (recalls_for v s p) → IsPathRecall x
recalls_are (PathsOut lease) s p x i = each_over s p.freeze x i
recalls_are Yes s p x i = absurd i
recalls_are (Ended lease until now) s p x i = absurd i
recalls_are (Moved prefix to) s p x i = absurd i

over_sent : (s : Server) (o : Option (List ℕ)) → ArePathSends (recalls_over s o)
over_sent s None = tt
over_sent s (Some file) = recalls_sent (recalls (goes_over file) s.paths.issued)

pub recalls_on_paths : (v : Vote) (s : Server) (p : Part) → ArePathSends (recalls_for v s p)
recalls_on_paths (PathsOut lease) s p = over_sent s p.freeze
recalls_on_paths Yes s p = tt
recalls_on_paths (Ended lease until now) s p = tt
recalls_on_paths (Moved prefix to) s p = tt

-- ## What messages of path leases do not bring

-- the clients get nothing
none_answered : (k : ℕ) (ms : List (Peer × Msg)) → ArePathSends ms → (lines : Session → Lines) → with_sent k ms lines ≡ lines
none_answered k [] are lines = refl
none_answered k ((OfServer to, msg.Peer m) ∷ rest) are lines = none_answered k rest are.1 lines
none_answered k ((OfServer to, msg.Answer a) ∷ rest) are lines = absurd are.0
none_answered k ((OfServer to, msg.Client a) ∷ rest) are lines = absurd are.0
none_answered k ((OfSession to, m) ∷ rest) are lines = absurd are.0

-- nor are other servers told what a part does
no_decision : (servers : List Server) (m : PeerMsg) → IsPathMessage m → decided_by servers m ≡ []
no_decision servers (peer.Decide m) is = absurd is
no_decision servers m is = refl

none_decided : (servers : List Server) (k : ℕ) (ms : List (Peer × Msg)) → ArePathSends ms
    → decided_among servers (in_flight_from k ms) ≡ []
none_decided servers k [] are = refl
none_decided servers k ((OfServer to, msg.Peer m) ∷ rest) are =
    rw (no_decision servers m are.0) (none_decided servers k rest are.1)
none_decided servers k ((OfServer to, msg.Answer a) ∷ rest) are = absurd are.0
none_decided servers k ((OfServer to, msg.Client a) ∷ rest) are = absurd are.0
none_decided servers k ((OfSession to, m) ∷ rest) are = absurd are.0

-- ## So with those for a part

pub recalls_tell_nothing : (from : ℕ) (v : Vote) (s : Server) (p : Part) → telling_of (in_flight_from from (recalls_for v s p)) ≡ []
recalls_tell_nothing from v s p = none_worded from (recalls_for v s p) (recalls_on_paths v s p)

pub recalls_hand_nothing : (from : ℕ) (v : Vote) (s : Server) (p : Part) → parcels_of (in_flight_from from (recalls_for v s p)) ≡ []
recalls_hand_nothing from v s p = none_handed from (recalls_for v s p) (recalls_on_paths v s p)

pub recalls_decide_nothing : (servers : List Server) (from : ℕ) (v : Vote) (s : Server) (p : Part)
    → decided_among servers (in_flight_from from (recalls_for v s p)) ≡ []
recalls_decide_nothing servers from v s p = none_decided servers from (recalls_for v s p) (recalls_on_paths v s p)

pub recalls_answer_nothing : (k : ℕ) (v : Vote) (s : Server) (p : Part) (lines : Session → Lines)
    → with_sent k (recalls_for v s p) lines ≡ lines
recalls_answer_nothing k v s p lines = none_answered k (recalls_for v s p) (recalls_on_paths v s p) lines
