-- A transaction that this server leads goes on: it waits, or is decided once all of its parts have voted.
use Rattle.std.specs.Prelude.{ℕ, Bool, ◌&&◌, List, [], ◌∷◌, ◌++◌, map, Option, Some, None, is_some, slice_get, if◌then◌else◌}
use Rattle.std.specs.FinMap.{get}
use Rattle.fs_ident.specs.declared.actor.Peer.{Peer}
use Rattle.fs_ident.specs.declared.actor.Peer.TheVariants.{Client}
use Rattle.fs_ident.specs.declared.actor.Session.{Session}
use Rattle.fs_ident.specs.declared.actor.TxnNo.{TxnNo}
use Rattle.fs_field.specs.declared.path.PathAnswer.{PathAnswer}
use Rattle.fs_model.specs.Asking.{home_of}
use Rattle.fs_model.specs.declared.op.Op.{Op}
use Rattle.fs_msg.specs.declared.answer.Answer.TheVariants as answer
use Rattle.fs_msg.specs.declared.item.Item.{Item}
use Rattle.fs_msg.specs.declared.msg.Msg.{Msg}
use Rattle.fs_msg.specs.declared.peer_msg.PeerMsg.TheVariants as peer
use Rattle.fs_msg.specs.declared.server_note.ServerNote.{ServerNote}
use Rattle.fs_msg.specs.declared.server_note.ServerNote.TheVariants as note
use Rattle.fs_record.specs.Applied.{records_after_all}
use Rattle.fs_record.specs.declared.led_end.LedEnd.{LedEnd}
use Rattle.fs_record.specs.declared.led_end.LedEnd.TheVariants as led
use Rattle.fs_txn.specs.Deciding.{decision, keeps_rows, needs_path, told_effects}
pub use Rattle.fs_txn.specs.Leading.{end_of_decision}
use Rattle.fs_txn.specs.Leading.{elsewhere, own_effects, with_ending, with_leading, without_leading}
use Rattle.fs_txn.specs.Locks.{rows_unlocked}
use Rattle.fs_txn.specs.Votes.{is_full}
use Rattle.fs_txn.specs.declared.decision.Decision.{Decision}
use Rattle.fs_txn.specs.declared.decision.Decision.TheVariants.{Commit, Abort}
use Rattle.fs_txn.specs.declared.leader.Leader.{Leader}
use Rattle.fs_txn.specs.declared.leading.Leading.{Leading}
use Rattle.fs_txn.specs.declared.mode.Mode2.{Mode2}
use Rattle.fs_server.specs.Follows.{paths_freed, to_server}
use Rattle.fs_server.specs.PathsHere.{path_here}
use Rattle.fs_server.specs.Server.{Stepped, to_session}
use Rattle.fs_server.specs.declared.state.Server.{Server}

-- ## What is told

-- how it is noted that a transaction ended in this way
abbrev pub end_note : TxnNo → LedEnd → ServerNote
end_note txn (led.Done r) = note.Commits txn r
end_note txn (led.Ended lease until now) = note.AbortsEnded txn lease until now
end_note txn (led.Again w) = note.Aborts txn w

-- an operation that commits is admitted
abbrev pub admitted_of : Decision → Leader → List Item
admitted_of (Commit r effects) l = record { by = Client l.session; n = l.n; op = l.op; reply = r } ∷ []
admitted_of (Abort e) l = []

-- each of these parts, with its server, is told what it has to do
abbrev pub tells : TxnNo → Decision → List (ℕ × ℕ) → List (Peer × Msg)
tells txn d out =
    map (λ (x : ℕ × ℕ). to_server x.1 (peer.Decide (record { txn = txn; number = x.0; effects = told_effects d x.0 }))) out

-- the session is told at once where no other server has to do anything
abbrev pub ends_now : List (ℕ × ℕ) → Session → LedEnd → List (Peer × Msg)
ends_now [] by e = to_session by (answer.Led e) ∷ []
ends_now (x ∷ xs) by e = []

-- ## Decided

-- the rows of a rename stay locked while another server has to do something
abbrev pub keeps_for : Decision → List (ℕ × ℕ) → Bool
keeps_for d out = keeps_rows d && is_some (slice_get out 0)

-- the parts that are here are carried out, and the transaction keeps no file here any more; these others, each with its server, are
-- told; before that this is sent
abbrev pub ends_with : Decision → List (ℕ × ℕ) → Leading → List (Peer × Msg) → Server → Stepped
ends_with d out l sent s = record {
  server = record s {
    records = records_after_all s.records (own_effects s.me l d);
    rows = if keeps_for d out then s.rows else rows_unlocked l.leader.txn s.rows;
    leading = without_leading l.leader.txn s.leading;
    ending = with_ending (record { txn = l.leader.txn; session = l.leader.session; end = end_of_decision d; awaits = out }) s.ending;
    paths = paths_freed l.leader.txn s.paths;
  };
  out = record {
    note = end_note l.leader.txn (end_of_decision d);
    send = sent ++ (tells l.leader.txn d out ++ ends_now out l.leader.session (end_of_decision d));
    admitted = admitted_of d l.leader;
  };
}

-- where the decision stands on a path, that of the home as the event finds it, while its record is here
abbrev pub path_for : Mode2 → Op → Server → Option PathAnswer
path_for mode o s = if needs_path mode o && is_some (get s.records (home_of o)) then Some (path_here s (home_of o)) else None

-- all parts have voted, and this is the path
abbrev pub concludes : Leading → Option PathAnswer → List (Peer × Msg) → Server → Stepped
concludes l path sent s = ends_with (decision l.leader path) (elsewhere s.me l) l sent s

-- ## Not decided yet

abbrev pub waits : ServerNote → Leading → List (Peer × Msg) → Server → Stepped
waits n l sent s = record {
  server = record s { leading = with_leading l s.leading };
  out = record { note = n; send = sent; admitted = [] };
}

-- it is decided where all parts have voted
abbrev pub goes_on : ServerNote → Leading → Option PathAnswer → List (Peer × Msg) → Server → Stepped
goes_on n l path sent s = if is_full l.leader.votes then concludes l path sent s else waits n l sent s
