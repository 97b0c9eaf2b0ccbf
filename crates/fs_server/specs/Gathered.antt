-- A transaction that begins or goes on, before anything is changed.
use Rattle.std.specs.Prelude.{◌≡◌, ℕ, ◌+◌, ◌<◌, ◌^◌, Bool, true, List, [], ◌∷◌, ◌++◌, Option, Some, if◌then◌else◌}
use Rattle.std.specs.List.{filter}
use Rattle.fs_ident.specs.declared.actor.Peer.{Peer}
use Rattle.fs_ident.specs.declared.actor.TxnNo.{TxnNo}
use Rattle.fs_field.specs.Table.{is_live}
use Rattle.fs_field.specs.declared.used.Use.{Use}
use Rattle.fs_field.specs.declared.vote.Vote.{Vote}
use Rattle.fs_field.specs.declared.vote.Vote.TheVariants.{Yes}
use Rattle.fs_msg.specs.declared.answer.Answer.TheVariants as answer
use Rattle.fs_msg.specs.declared.msg.Msg.{Msg}
use Rattle.fs_msg.specs.declared.server_note.ServerNote.{ServerNote}
use Rattle.fs_msg.specs.declared.server_note.ServerNote.TheVariants as note
use Rattle.fs_path.specs.Tables.{with_all_frozen}
use Rattle.fs_record.specs.Applied.{is_undoable, takes_away}
use Rattle.fs_txn.specs.Leading.{IsWholeLeader, own_effects}
use Rattle.fs_txn.specs.Preparing.{rows_locked}
use Rattle.fs_txn.specs.declared.decision.Decision.{Decision}
use Rattle.fs_txn.specs.declared.leader.Leader.{Leader}
use Rattle.fs_txn.specs.declared.leading.Ending.{Ending}
use Rattle.fs_txn.specs.declared.leading.Leading.{Leading}
use Rattle.fs_server.specs.Concludes.{admitted_of, end_note, end_of_decision, ends_now, keeps_for, tells}
use Rattle.fs_server.specs.Begins.{Round}
use Rattle.fs_server.specs.Server.{to_session}
use Rattle.fs_server.specs.declared.change.Change.TheVariants.{Lead}
use Rattle.fs_server.specs.declared.change.Then.{Then}
use Rattle.fs_server.specs.declared.change.Then.TheVariants.{Waits, Ends}
use Rattle.fs_server.specs.declared.decide.Decided.{Decided}
use Rattle.fs_server.specs.declared.begins.Gathered.{Gathered}
use Rattle.fs_server.specs.declared.out.ServerOut.{ServerOut}
use Rattle.fs_server.specs.declared.state.Server.{Server}

-- the leases of which a vote lets the transaction keep the rows
abbrev pub uses_voted : Vote → List Use → List Use
uses_voted Yes uses = uses
uses_voted vote uses = []

-- the file that it lets it keep
abbrev pub files_voted : Vote → Option (List ℕ) → List (List ℕ)
files_voted Yes (Some file) = file ∷ []
files_voted vote file = []

-- the server where the transaction begins or goes on, and keeps the rows of these leases, and these files
abbrev pub keeping : Bool → TxnNo → List Use → List (List ℕ) → Server → Server
keeping begins txn uses files s = record s {
  txns = if begins then s.txns + 1 else s.txns;
  rows = rows_locked txn uses s.rows;
  paths = record s.paths { frozen = with_all_frozen txn files s.paths.frozen };
}

-- the server, and what became of the first parts, where this was gathered
abbrev pub gathered_by : Gathered → TxnNo → Server → Round
gathered_by g txn s = record { server = keeping true txn g.uses g.files s; votes = g.votes; at = g.at; send = g.send }

-- the server at this reading, which is the greatest so far
abbrev pub begun_at : ℕ → Server → Server
begun_at reading s = record s { last = reading; rows = filter (is_live reading s.skew) s.rows }

-- ## What is decided

-- votes are awaited
abbrev pub waits_by : Bool → ServerNote → Leading → List Use → List (List ℕ) → List (Peer × Msg) → Decided
waits_by begins n l uses files send = record {
  change = Lead begins l.leader.txn uses files (Waits l);
  out = record { note = n; send = send; admitted = [] };
}

-- what becomes of it where it is decided: what is taken away here comes last
abbrev pub ends_by : ℕ → Leading → Decision → List (ℕ × ℕ) → Then
ends_by me l d out = Ends
    (filter is_undoable (own_effects me l d)) (filter takes_away (own_effects me l d))
    (record { txn = l.leader.txn; session = l.leader.session; end = end_of_decision d; awaits = out })
    (keeps_for d out)

-- what is noted, sent and admitted
abbrev pub told_by : Decision → List (ℕ × ℕ) → Leader → List (Peer × Msg) → ServerOut
told_by d out l sent = record {
  note = end_note l.txn (end_of_decision d);
  send = sent ++ (tells l.txn d out ++ ends_now out l.session (end_of_decision d));
  admitted = admitted_of d l;
}

-- what is noted and sent where a part is done
abbrev pub done_told : Ending → List (ℕ × ℕ) → ServerOut
done_told x [] = record { note = note.Ends x.txn; send = to_session x.session (answer.Led x.end) ∷ []; admitted = [] }
done_told x (y ∷ ys) = record { note = note.Waits x.txn; send = []; admitted = [] }

-- it has all its parts
abbrev pub IsWhole : Leading → Type 0
IsWhole l = (uses : List Use) × IsWholeLeader l uses

-- and a number where it begins
pub record CanGoOn (begins : Bool) (l : Leading) (s : Server) : Type 0 where
  pub uses : List Use
  pub whole : IsWholeLeader l uses
  pub few : begins ≡ true → s.txns + 1 < 2 ^ 64
