-- What other servers tell of transactions that this one leads: their votes, and that what was decided is done.
use Rattle.std.specs.Prelude.{ℕ, ◌==◌, List, [], ◌∷◌, Option, Some, None, slice_get, slice_set, if◌then◌else◌}
use Rattle.fs_ident.specs.declared.actor.Session.{Session}
use Rattle.fs_ident.specs.declared.actor.TxnNo.{TxnNo}
use Rattle.fs_field.specs.declared.used.Part.{Part}
use Rattle.fs_field.specs.declared.vote.Vote.{Vote}
use Rattle.fs_field.specs.declared.vote.Vote.TheVariants.{Yes, Moved}
use Rattle.fs_map.specs.Map.{server_of}
use Rattle.fs_msg.specs.declared.answer.Answer.TheVariants as answer
use Rattle.fs_msg.specs.declared.done.Done.{Done}
use Rattle.fs_msg.specs.declared.peer_msg.PeerMsg.{PeerMsg}
use Rattle.fs_msg.specs.declared.peer_msg.PeerMsg.TheVariants as peer
use Rattle.fs_msg.specs.declared.server_note.ServerNote.TheVariants as note
use Rattle.fs_msg.specs.declared.voted.Voted.{Voted}
use Rattle.fs_path.specs.Tables.{PathTables}
use Rattle.fs_txn.specs.Leading.{awaits_done, ending_of, leading_of, with_ending, without_done}
use Rattle.fs_txn.specs.Locks.{rows_unlocked}
use Rattle.fs_txn.specs.Preparing.{rows_voted}
use Rattle.fs_txn.specs.Votes.{after_vote, awaits}
use Rattle.fs_txn.specs.declared.leading.Ending.{Ending}
use Rattle.fs_txn.specs.declared.leading.Leading.{Leading}
use Rattle.fs_server.specs.Concludes.{goes_on, path_for, waits}
use Rattle.fs_server.specs.Follows.{paths_kept, recalls_for, to_server, vote_here}
use Rattle.fs_server.specs.Server.{Stepped, is_mine, strange, to_session}
use Rattle.fs_server.specs.declared.state.Server.{Server}

-- ## A part is asked for

abbrev pub ask_for : TxnNo → ℕ → Session → Part → PeerMsg
ask_for txn number by p = peer.Prepare (record { txn = txn; number = number; session = by; part = p })

-- that server is asked for the part now
abbrev pub asked_at : ℕ → ℕ → Leading → Leading
asked_at number to l = record l { at = slice_set l.at number to }

abbrev pub seeks : ℕ → ℕ → Part → Leading → Server → Stepped
seeks number to p l s =
    waits (note.Seeks l.leader.txn to) (asked_at number to l) (to_server to (ask_for l.leader.txn number l.leader.session p) ∷ []) s

-- ## A vote

-- where the vote on a part of its own is Yes, the transaction keeps the rows of the part's leases, and the file that the part names
abbrev pub paths_voted : Vote → TxnNo → Option (List ℕ) → PathTables → PathTables
paths_voted Yes txn file t = paths_kept txn file t
paths_voted v txn file t = t

abbrev pub after_own_vote : TxnNo → Part → Vote → Server → Server
after_own_vote txn p v s = record s { rows = rows_voted v txn p.uses s.rows; paths = paths_voted v txn p.freeze s.paths }

abbrev pub with_vote : ℕ → Vote → Leading → Leading
with_vote number v l = record l { leader = after_vote number v l.leader }

abbrev pub counts : ℕ → Vote → Leading → Server → Stepped
counts number v l s = goes_on (note.Waits l.leader.txn) (with_vote number v l) (path_for l.leader.mode l.leader.op s) [] s

-- this server votes on the part itself
abbrev pub counts_own : ℕ → Part → Vote → Leading → Server → Stepped
counts_own number p v l s =
    goes_on (note.Waits l.leader.txn) (with_vote number v (asked_at number s.me l)) (path_for l.leader.mode l.leader.op s)
    (recalls_for v s p) (after_own_vote l.leader.txn p v s)

-- another server believes that the part is here: where it is not, this one's map tells where to ask
abbrev pub comes_home : ℕ → Part → Leading → Server → Stepped
comes_home number p l s =
    if is_mine s p.file then counts_own number p (vote_here s l.leader.session p) l s else seeks number (server_of s.map p.file) p l s

-- the part is at that server
abbrev pub sent_on : ℕ → ℕ → Option Part → Leading → Server → Stepped
sent_on number to None l s = strange s
sent_on number to (Some p) l s = if to == s.me then comes_home number p l s else seeks number to p l s

-- a vote that the file is elsewhere is not counted: the part is asked for there
abbrev pub voted : ℕ → Vote → Leading → Server → Stepped
voted number (Moved prefix to) l s = sent_on number to (slice_get l.leader.parts number) l s
voted number v l s = counts number v l s

-- the vote on a part of this transaction comes; only one that is awaited is
abbrev pub vote_of : Option Leading → Voted → Server → Stepped
vote_of None m s = strange s
vote_of (Some l) m s = if awaits l.leader m.number then voted m.number m.vote l s else strange s

abbrev pub vote_step : Voted → Server → Stepped
vote_step m s = vote_of (leading_of m.txn s.leading) m s

-- ## What was decided is done

-- with the last part the rows are unlocked, and the session is told how its operation ended
abbrev pub done_with : Ending → List (ℕ × ℕ) → Server → Stepped
done_with x [] s = record {
  server = record s { rows = rows_unlocked x.txn s.rows; ending = with_ending x s.ending };
  out = record { note = note.Ends x.txn; send = to_session x.session (answer.Led x.end) ∷ []; admitted = [] };
}
done_with x (y ∷ ys) s = record {
  server = record s { ending = with_ending x s.ending };
  out = record { note = note.Waits x.txn; send = []; admitted = [] };
}

-- only what is awaited is done
abbrev pub done_of : Option Ending → Done → Server → Stepped
done_of None m s = strange s
done_of (Some x) m s =
    if awaits_done m.number x.awaits then done_with (without_done m.number x) (without_done m.number x).awaits s else strange s

abbrev pub done_step : Done → Server → Stepped
done_step m s = done_of (ending_of m.txn s.ending) m s
