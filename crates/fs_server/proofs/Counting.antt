-- Votes on parts of transactions that the server leads, and what is done of them.
use Rattle.std.proofs.Common.{◌≡◌, ◌==◌, ℕ, Bool, true, false, List, [], ◌∷◌, length, refl, ap, ap₂, sym, ◌∙◌, subst, cond}
use Rattle.std.specs.Prelude.{Option, Some, None, slice_get}
use Rattle.std.proofs.lemmas.Bool.{eqb-true}
use Rattle.std.proofs.lemmas.List.{length-set}
use Rattle.fs_ident.specs.declared.actor.Peer.{Peer}
use Rattle.fs_ident.specs.declared.actor.TxnNo.{TxnNo}
use Rattle.fs_ident.proofs.Passing.{found}
use Rattle.fs_field.specs.Table.{same_txn, unlocked_row}
use Rattle.fs_field.specs.declared.row.Row.{Row}
use Rattle.fs_field.specs.declared.used.Part.{Part}
use Rattle.fs_field.specs.declared.used.Use.{Use}
use Rattle.fs_field.specs.declared.vote.Vote.{Vote}
use Rattle.fs_field.specs.declared.vote.Vote.TheVariants.{Yes, Ended, Moved, PathsOut}
use Rattle.fs_field.proofs.Leases.{unlocked_same}
use Rattle.fs_field.specs.declared.path.PathAnswer.{PathAnswer}
use Rattle.fs_msg.specs.declared.msg.Msg.{Msg}
use Rattle.fs_msg.specs.declared.server_note.ServerNote.{ServerNote}
use Rattle.fs_msg.specs.declared.server_note.ServerNote.TheVariants as note
use Rattle.fs_path.specs.Tables.{PathTables, with_all_frozen}
use Rattle.fs_rows.proofs.Numbers.{given_map}
use Rattle.fs_msg.specs.declared.done.Done.{Done}
use Rattle.fs_txn.specs.Leading.{awaits_done, ending_of, leading_of, with_ending, without_done}
use Rattle.fs_txn.specs.Locks.{rows_unlocked}
use Rattle.fs_txn.specs.Preparing.{rows_locked}
use Rattle.fs_txn.specs.Votes.{Votes, votes_after}
use Rattle.fs_txn.specs.declared.leading.Ending.{Ending}
use Rattle.fs_txn.specs.declared.leading.Leading.{Leading}
use Rattle.fs_txn.proofs.Locking.{none_locked}
use Rattle.fs_server.specs.Concludes.{goes_on, path_for, waits}
use Rattle.fs_server.specs.Counts.{after_own_vote, ask_for, asked_at, comes_home, counts, counts_own, done_of, done_with, seeks, sent_on, with_vote}
use Rattle.fs_server.specs.Decided.{CanDecide, stepped_by}
use Rattle.fs_server.specs.Follows.{paths_kept, recalls_for, to_server}
use Rattle.fs_server.specs.Gathered.{CanGoOn, IsWhole, done_told, files_voted, keeping, uses_voted, waits_by}
use Rattle.fs_server.specs.Grants.{IsReady}
use Rattle.fs_server.specs.Plan.{CanChange, changed, done_change}
use Rattle.fs_server.specs.Server.{Stepped, strange}
use Rattle.fs_server.specs.declared.change.Change.TheVariants as change
use Rattle.fs_server.specs.declared.decide.Decided.{Decided}
use Rattle.fs_server.specs.declared.out.ServerOut.{ServerOut}
use Rattle.fs_server.specs.declared.state.Server.{Server}
use Rattle.fs_server.proofs.Concluding.{waits_can, waits_so, with_led}
use Rattle.fs_server.proofs.Kept.{leased_rows}

-- ## No rows, or those of a part

-- where no leases are used, nothing is kept
pub keeps_none : (txn : TxnNo) (s : Server) → keeping false txn [] [] s ≡ s
keeps_none txn s = ap (λ (rows : List Row). record s { rows = rows }) (none_locked txn s.rows)

-- the file of a part that said Yes
kept_so : (txn : TxnNo) (file : Option (List ℕ)) (t : PathTables)
    → record t { frozen = with_all_frozen txn (files_voted Yes file) t.frozen } ≡ paths_kept txn file t
kept_so txn None t = refl
kept_so txn (Some file) t = refl

-- its rows, and the file
pub keeps_voted : (vote : Vote) (txn : TxnNo) (p : Part) (s : Server)
    → keeping false txn (uses_voted vote p.uses) (files_voted vote p.freeze) s ≡ after_own_vote txn p vote s
keeps_voted Yes txn p s = ap (λ (t : PathTables). record s { rows = rows_locked txn p.uses s.rows; paths = t }) (kept_so txn p.freeze s.paths)
keeps_voted (Ended lease until now) txn p s = keeps_none txn s
keeps_voted (Moved prefix to) txn p s = keeps_none txn s
keeps_voted (PathsOut lease) txn p s = keeps_none txn s

-- ## All parts are there

asked_whole : (number to : ℕ) (l : Leading) → IsWhole l → IsWhole (asked_at number to l)
asked_whole number to l w = (
  w.0,
  record {
    parts = w.1.parts;
    asked = length-set l.at number to ∙ w.1.asked;
    votes = w.1.votes;
  },
)

votes_length : (vote : Vote) (votes : Votes) (number : ℕ) → length (votes_after votes number vote) ≡ length votes
votes_length Yes votes number = length-set votes number (Some Yes)
votes_length (Ended lease until now) votes number = length-set votes number (Some (Ended lease until now))
votes_length (Moved prefix to) votes number = refl
votes_length (PathsOut lease) votes number = length-set votes number (Some (PathsOut lease))

voted_whole : (number : ℕ) (vote : Vote) (l : Leading) → IsWhole l → IsWhole (with_vote number vote l)
voted_whole number vote l w = (
  w.0,
  record {
    parts = w.1.parts;
    asked = w.1.asked;
    votes = votes_length vote l.leader.votes number ∙ w.1.votes;
  },
)

-- it may go on where it goes on already
pub goes_more : (l : Leading) (s : Server) → IsWhole l → CanGoOn false l s
goes_more l s w = record { uses = w.0; whole = w.1; few = λ e. absurd (cc e) }

pub counts_on : (number : ℕ) (vote : Vote) (l x : Leading) (s : Server) → IsWhole l → x ≡ with_vote number vote l → CanGoOn false x s
counts_on number vote l x s w h = goes_more x s (subst IsWhole (sym h) (voted_whole number vote l w))

pub own_on : (number : ℕ) (vote : Vote) (l x : Leading) (s : Server) → IsWhole l → x ≡ asked_at number s.me (with_vote number vote l) → CanGoOn false x s
own_on number vote l x s w h = goes_more x s (subst IsWhole (sym h) (asked_whole number s.me (with_vote number vote l) (voted_whole number vote l w)))

-- ## A vote

-- it goes on, and keeps these rows and files
pub goes_so : (n : ServerNote) (l x : Leading) (path : Option PathAnswer) (uses : List Use) (files : List (List ℕ)) (send told : List (Peer × Msg)) (s t : Server) → x ≡ l
    → send ≡ told → keeping false l.leader.txn uses files s ≡ t
    → goes_on n x path send (keeping false x.leader.txn uses files s) ≡ goes_on n l path told t
goes_so n l x path uses files send told s t h e k =
    ap (λ (z : Leading). goes_on n z path send (keeping false z.leader.txn uses files s)) h ∙ ap₂ (λ (ms : List (Peer × Msg)) (u : Server). goes_on n l path ms u) e k

pub counts_so : (number : ℕ) (vote : Vote) (l x : Leading) (uses : List Use) (files : List (List ℕ)) (send : List (Peer × Msg)) (s : Server)
    → x ≡ with_vote number vote l → uses ≡ [] → files ≡ [] → send ≡ []
    → goes_on (note.Waits l.leader.txn) x (path_for x.leader.mode x.leader.op s) send (keeping false x.leader.txn uses files s) ≡ counts number vote l s
counts_so number vote l x uses files send s h u f e =
    ap (λ (z : Leading). goes_on (note.Waits l.leader.txn) x (path_for z.leader.mode z.leader.op s) send (keeping false x.leader.txn uses files s)) h
    ∙ goes_so (note.Waits l.leader.txn) (with_vote number vote l) x (path_for l.leader.mode l.leader.op s) uses files send [] s s h e
    (ap₂ (λ (us : List Use) (fs : List (List ℕ)). keeping false l.leader.txn us fs s) u f ∙ keeps_none l.leader.txn s)

pub own_so : (number : ℕ) (p : Part) (vote : Vote) (l x : Leading) (uses : List Use) (files : List (List ℕ)) (send : List (Peer × Msg)) (s : Server)
    → x ≡ asked_at number s.me (with_vote number vote l) → uses ≡ uses_voted vote p.uses → files ≡ files_voted vote p.freeze → send ≡ recalls_for vote s p
    → goes_on (note.Waits l.leader.txn) x (path_for x.leader.mode x.leader.op s) send (keeping false x.leader.txn uses files s)
    ≡ counts_own number p vote l s
own_so number p vote l x uses files send s h u f e =
    ap (λ (z : Leading). goes_on (note.Waits l.leader.txn) x (path_for z.leader.mode z.leader.op s) send (keeping false x.leader.txn uses files s)) h
    ∙ goes_so (note.Waits l.leader.txn) (asked_at number s.me (with_vote number vote l)) x (path_for l.leader.mode l.leader.op s) uses files send
    (recalls_for vote s p) s
    (after_own_vote l.leader.txn p vote s) h e
    (ap₂ (λ (us : List Use) (fs : List (List ℕ)). keeping false l.leader.txn us fs s) u f ∙ keeps_voted vote l.leader.txn p s)

-- ## Another server is asked

pub seeks_so : (number to : ℕ) (p : Part) (l : Leading) (s : Server) (x : Leading) (uses : List Use) (files : List (List ℕ)) (send : List (Peer × Msg))
    (d : Decided) → x ≡ asked_at number to l → uses ≡ [] → files ≡ [] → send ≡ to_server to (ask_for l.leader.txn number l.leader.session p) ∷ []
    → d ≡ waits_by false (note.Seeks l.leader.txn to) x uses files send → stepped_by d s ≡ seeks number to p l s
seeks_so number to p l s x uses files send d h u f m e =
    let n : ServerNote = note.Seeks l.leader.txn to in
    waits_so false n x uses files send s d e
    ∙ ap (λ (z : Leading). waits n z send (keeping false z.leader.txn uses files s)) h
    ∙ ap₂ (λ (us : List Use) (fs : List (List ℕ)). waits n (asked_at number to l) send (keeping false l.leader.txn us fs s)) u f
    ∙ ap₂ (λ (ms : List (Peer × Msg)) (t : Server). waits n (asked_at number to l) ms t) m (keeps_none l.leader.txn s)

pub seeks_can : (number to : ℕ) (p : Part) (l : Leading) (s : Server) (x : Leading) (uses : List Use) (files : List (List ℕ)) (send : List (Peer × Msg))
    (d : Decided) → IsReady s → IsWhole l → x ≡ asked_at number to l → d ≡ waits_by false (note.Seeks l.leader.txn to) x uses files send → CanDecide d s
seeks_can number to p l s x uses files send d r w h e =
    waits_can false (note.Seeks l.leader.txn to) x uses files send s d r (subst IsWhole (sym h) (asked_whole number to l w)) (λ f. absurd (cc f)) e

-- ## Parts that are done

finished_ready : (x : Ending) (awaits : List (ℕ × ℕ)) (s : Server) → IsReady s → IsReady (done_with x awaits s).server
finished_ready x [] s r = with_led s s.records (rows_unlocked x.txn s.rows) s.leading (with_ending x s.ending) r
    (given_map s.me s.given (unlocked_row x.txn) (unlocked_same x.txn) s.rows r.server.numbers)
    (leased_rows (unlocked_row x.txn) (unlocked_same x.txn) s.rows r.table) r.server.whole
finished_ready x (y ∷ ys) s r = with_led s s.records s.rows s.leading (with_ending x s.ending) r r.server.numbers r.table r.server.whole

done_ready : (o : Option Ending) (number : ℕ) (s : Server) → IsReady s → IsReady (done_change o number s)
done_ready None number s r = r
done_ready (Some x) number s r = finished_ready (without_done number x) (without_done number x).awaits s r

pub done_can : (txn : TxnNo) (number : ℕ) (s : Server) (d : Decided) → IsReady s → d.change ≡ change.Done txn number → CanDecide d s
done_can txn number s d r ch = record {
  change = subst (λ c. CanChange c s) (sym ch) tt;
  ready = subst (λ c. IsReady (changed c s)) (sym ch) (done_ready (ending_of txn s.ending) number s r);
}

told_is : (x : Ending) (awaits : List (ℕ × ℕ)) (s : Server)
    → (let y : Stepped = record { server = (done_with x awaits s).server; out = done_told x awaits } in y) ≡ done_with x awaits s
told_is x [] s = refl
told_is x (y ∷ ys) s = refl

-- one that is awaited is taken off
pub done_so : (x : Ending) (m : Done) (s : Server) (out : ServerOut) → ending_of m.txn s.ending ≡ Some x → awaits_done m.number x.awaits ≡ true
    → out ≡ done_told (without_done m.number x) (without_done m.number x).awaits
    → stepped_by (record { change = change.Done m.txn m.number; out = out }) s ≡ done_of (Some x) m s
done_so x m s out is awaited told =
    let rest : Ending = without_done m.number x in
    ap₂ (λ (o : Option Ending) (y : ServerOut). let z : Stepped = record { server = done_change o m.number s; out = y } in z) is told
    ∙ told_is rest rest.awaits s
    ∙ sym (ap (λ b. cond b (done_with rest rest.awaits s) (strange s)) awaited)

-- ## The transaction of a vote

pub whole_found : (txn : TxnNo) (l : Leading) (s : Server) → IsReady s → leading_of txn s.leading ≡ Some l → IsWhole l
whole_found txn l s r h = r.server.whole l (found (λ (x : Leading). same_txn x.leader.txn txn) s.leading l h).0

-- ## A part that is elsewhere

pub not_equal : (a b : ℕ) → (a ≡ b → ⊥) → (a == b) ≡ false
not_equal a b other = elim (a == b) as (λ x. (a == b) ≡ x → x ≡ false) [ true ↦ λ e. absurd (other (eqb-true a b e)) | false ↦ λ e. refl ] refl

-- where the part is found, it is asked for at that server, or this one looks for it itself
pub sent_so : (number to : ℕ) (p : Part) (l : Leading) (s : Server) (here : Bool) → slice_get l.leader.parts number ≡ Some p → (to == s.me) ≡ here
    → sent_on number to (slice_get l.leader.parts number) l s ≡ cond here (comes_home number p l s) (seeks number to p l s)
sent_so number to p l s here there is =
    ap (λ o. sent_on number to o l s) there ∙ ap (λ b. cond b (comes_home number p l s) (seeks number to p l s)) is
