-- What an event was decided to come to.
use Rattle.std.specs.Prelude.{ℕ, List, [], ◌∷◌}
use Rattle.fs_ident.specs.declared.actor.Peer.{Peer}
use Rattle.fs_msg.specs.declared.server_note.ServerNote.{ServerNote}
use Rattle.fs_field.specs.declared.vote.Vote.{Vote}
use Rattle.fs_field.specs.declared.vote.Vote.TheVariants.{Yes}
use Rattle.fs_msg.specs.declared.prepare.Prepare.{Prepare}
use Rattle.fs_server.specs.declared.change.Change.{Change}
use Rattle.fs_server.specs.declared.change.Change.TheVariants.{Nothing, Prepare as Keep}
use Rattle.fs_server.specs.declared.decide.Decided.{Decided}
use Rattle.fs_server.specs.declared.state.Server.{Server}
use Rattle.fs_msg.specs.declared.msg.Msg.{Msg}
use Rattle.fs_msg.specs.declared.peer_msg.PeerMsg.TheVariants as peer
use Rattle.fs_msg.specs.declared.server_note.ServerNote.TheVariants as note
use Rattle.fs_record.specs.declared.led_end.Why.{Why}
use Rattle.fs_server.specs.Follows.{ready_of, to_server}
use Rattle.fs_server.specs.Grants.{IsReady}
use Rattle.fs_server.specs.Plan.{changed, CanChange}
use Rattle.fs_server.specs.Server.{Stepped}

-- the server after it, and what comes of it
abbrev pub stepped_by : Decided → Server → Stepped
stepped_by d s = record { server = changed d.change s; out = d.out }

-- it can be carried out, and leads to a server with its rows in order
pub record CanDecide (d : Decided) (s : Server) : Type 0 where
  pub change : CanChange d.change s
  pub ready : IsReady (changed d.change s)

-- nothing is changed, sent or admitted
abbrev pub noted_only : ServerNote → Decided
noted_only n = record { change = Nothing; out = record { note = n; send = []; admitted = [] } }

-- only this is noted and sent
abbrev pub sent_only : ServerNote → List (Peer × Msg) → Decided
sent_only n messages = record { change = Nothing; out = record { note = n; send = messages; admitted = [] } }

-- no path of the file is given out, for that reason
abbrev pub denied : ℕ → List ℕ → Why → Decided
denied from file w = sent_only (note.PathDenies w) (to_server from (peer.PathNo file w) ∷ [])

-- what the vote on a part changes
abbrev pub voted_change : Vote → Prepare → Change
voted_change Yes m = Keep (ready_of m)
voted_change vote m = Nothing
