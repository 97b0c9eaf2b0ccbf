-- No server and no client is told what no honest actor sends, and what is noted is fair.
use Rattle.std.proofs.Common.{◌≡◌, ℕ, ◌+◌, ◌/◌, ◌≤◌, max, Bool, true, false, not, ◌&&◌, List, [], ◌∷◌, cond, refl, arith}
use Rattle.std.specs.Prelude.{◌≢◌, Option, Some, None, is_some, slice_get}
use Rattle.fs_ident.specs.declared.actor.LeaseNo.{LeaseNo}
use Rattle.fs_ident.specs.declared.actor.Peer.{Peer}
use Rattle.fs_ident.specs.declared.actor.Peer.TheVariants.{Client as OfSession}
use Rattle.fs_ident.specs.declared.actor.Session.{Session}
use Rattle.fs_ident.specs.declared.actor.TxnNo.{TxnNo}
use Rattle.fs_field.specs.declared.path.PathAnswer.{PathAnswer}
use Rattle.fs_field.specs.declared.row.Row.{Row}
use Rattle.fs_model.specs.Step.{is_empty}
use Rattle.fs_view.specs.declared.view_lease.ViewLease.{ViewLease}
use Rattle.fs_msg.specs.declared.answer.Answer.{Answer}
use Rattle.fs_msg.specs.declared.answer.Answer.TheVariants as answer
use Rattle.fs_msg.specs.declared.client_msg.ClientMsg.{ClientMsg}
use Rattle.fs_msg.specs.declared.client_msg.ClientMsg.TheVariants.{Ask, Renew, Release, Ship, Lead}
use Rattle.fs_msg.specs.declared.client_note.ClientNote.{ClientNote}
use Rattle.fs_msg.specs.declared.client_note.ClientNote.TheVariants as client_note
use Rattle.fs_msg.specs.declared.end.End.{End}
use Rattle.fs_msg.specs.declared.entry.Entry.{Entry}
use Rattle.fs_msg.specs.declared.lead.Lead.{Lead as ToLead}
use Rattle.fs_msg.specs.declared.msg.Msg.{Msg}
use Rattle.fs_msg.specs.declared.note.Note.{Note}
use Rattle.fs_msg.specs.declared.note.Note.TheVariants as note
use Rattle.fs_field.specs.declared.vote.Vote.{Vote as AVote}
use Rattle.fs_msg.specs.declared.decide.Decide.{Decide as ToDecide}
use Rattle.fs_msg.specs.declared.done.Done.{Done as ToldDone}
use Rattle.fs_msg.specs.declared.prepare.Prepare.{Prepare as ToPrepare}
use Rattle.fs_msg.specs.declared.peer_msg.PeerMsg.{PeerMsg}
use Rattle.fs_msg.specs.declared.peer_msg.PeerMsg.TheVariants.{Parcel as OfParcel, Prepare, Vote, Decide, Done}
use Rattle.fs_msg.specs.declared.server_note.ServerNote.{ServerNote}
use Rattle.fs_msg.specs.declared.server_note.ServerNote.TheVariants as server_note
use Rattle.fs_msg.specs.declared.voted.Voted.{Voted}
use Rattle.fs_parcel.specs.declared.error.MoveError.{MoveError}
use Rattle.fs_record.specs.declared.led_end.LedEnd.{LedEnd}
use Rattle.fs_record.specs.declared.led_end.LedEnd.TheVariants as led_end
use Rattle.fs_record.specs.declared.parcel.Parcel.{Parcel}
use Rattle.fs_txn.specs.Deciding.{decision}
use Rattle.fs_txn.specs.Leading.{end_of_decision, without_done}
use Rattle.fs_txn.specs.declared.leading.Ending.{Ending}
use Rattle.fs_txn.specs.declared.leading.Leading.{Leading}
use Rattle.fs_client.specs.Answers.{answer_plan, fits, led_plan, strange as strange_plan, fitting_plan}
use Rattle.fs_client.specs.Client.{begun}
use Rattle.fs_client.specs.Turns.{ending, idle, release_some, renew_some, returned, ship_some, turn_free, turn_on, turn_plan}
use Rattle.fs_client.specs.declared.led.Led.{Led}
use Rattle.fs_client.specs.declared.state.Client.{Client}
use Rattle.fs_server.proofs.Leading.{LeadEnds, begun as txn_begun, kept as path_kept, lead_ends, put_off, unled, wanted as path_wanted}
use Rattle.fs_server.specs.Begins.{Round, leader_with, round_of, txn_of}
use Rattle.fs_server.specs.Concludes.{end_note, goes_on, path_for}
use Rattle.fs_server.specs.Counts.{after_own_vote, asked_at, done_step, done_with, vote_step, with_vote}
use Rattle.fs_server.specs.Leads.{lead_step}
use Rattle.fs_server.specs.Follows.{applies, is_prepared, recalls_for, vote_here, votes}
use Rattle.fs_server.specs.Moves.{fits_here, move_at, parcel_at, peer_step}
use Rattle.fs_server.specs.Reaps.{lapsed_in, turn_over}
use Rattle.fs_server.specs.Server.{Stepped, begun as server_begun, strange}
use Rattle.fs_server.specs.Step.{step}
use Rattle.fs_server.specs.declared.event.ServerEvent.{ServerEvent}
use Rattle.fs_server.specs.declared.event.ServerEvent.TheVariants.{FromClient, FromPeer, Turn, Recall as TheRecall, Move}
use Rattle.fs_server.specs.declared.state.Server.{Server}
use Rattle.fs_serial.specs.Cluster.{Cluster, IsThere, after_step}
use Rattle.fs_serial.specs.EndedLeases.{WasEnded, asker_of, session_of_txn}
use Rattle.fs_serial.specs.Refusals.{IsFairEnd, IsFairNote, rows_in}
use Rattle.fs_serial.specs.Whole.{ClusterStands}
use Rattle.fs_serial.proofs.Moves.PathSteps.{IsPathNote, each_message, refusal_here, refused}
use Rattle.fs_world.specs.Refusals.{IsFair, is_core_strange}
use Rattle.fs_world.proofs.LedEach.{each_done, each_goes, each_vote}
use Rattle.fs_world.proofs.SerialLaws.{SerialLaws, TimedHolds}

-- of an answer to a log: so many entries, how it ends, and what is held back
abbrev pub Answers : Type 1
Answers = ℕ → End → List ℕ → Type 0

-- what is fair in an event: such an answer, or that an operation of this session, which that transaction is of, is given up since
-- that lease had ended then; and whose event it is
pub record Fairness : Type 1 where
  pub answers : Answers
  pub own : TxnNo → Session → Type 0
  pub ended : Session → LeaseNo → ℕ → ℕ → Type 0
  pub who : Option Peer

abbrev pub NoteFair : Fairness → Note → Type 0
NoteFair ok n = IsFair ok.answers ok.own ok.ended ok.who n

pub record IsRight (ok : Fairness) (n : Note) : Type 0 where
  pub plain : is_core_strange n ≡ false
  pub fair : NoteFair ok n

-- ## At a client

renew_right : (ok : Fairness) (ks : List ViewLease) (c : Client) → IsRight ok (note.Client (renew_some ks c).out.note)
renew_right ok [] c = record { plain = refl; fair = tt }
renew_right ok (k ∷ ks) c = record { plain = refl; fair = tt }

release_right : (ok : Fairness) (ks : List ViewLease) (c : Client) → IsRight ok (note.Client (release_some ks c).out.note)
release_right ok [] c = renew_right ok (ending (c.last + c.term / 2) c.view) c
release_right ok (k ∷ ks) c = record { plain = refl; fair = tt }

ship_right : (ok : Fairness) (es : List Entry) (c : Client) → IsRight ok (note.Client (ship_some es c).out.note)
ship_right ok [] c = record { plain = refl; fair = tt }
ship_right ok (e ∷ es) c = record { plain = refl; fair = tt }

free_right : (ok : Fairness) (c : Client) → IsRight ok (note.Client (turn_free c).out.note)
free_right ok c = elim (not (is_empty c.log) && not (is_some c.over)) as (λ b.
    IsRight ok (note.Client (cond b (ship_some c.log c) (release_some (returned c.view) c)).out.note)) [
      | true ↦ ship_right ok c.log c
      | false ↦ release_right ok (returned c.view) c
    ]

turned_right : (ok : Fairness) (c : Client) → IsRight ok (note.Client (turn_on c).out.note)
turned_right ok c = elim (is_some c.exchange) as (λ b. IsRight ok (note.Client (cond b (idle c) (turn_free c)).out.note)) [
  | true ↦ record { plain = refl; fair = tt }
  | false ↦ free_right ok c
]

pub turn_right : (ok : Fairness) (c : Client) (now : ℕ) → IsRight ok (note.Client (turn_plan c now).out.note)
turn_right ok c now = turned_right ok (begun now c)

plain_client : (ok : Fairness) (n : ClientNote) → n ≢ client_note.Strange → NoteFair ok (note.Client n) → IsRight ok (note.Client n)
plain_client ok client_note.Strange h fair = absurd (h refl)
plain_client ok n h fair = record { plain = refl; fair = fair }

-- where it is fair to hear that what is led is refused, so it is to note it
abbrev pub HearsFair : Fairness → Answer → Type 0
HearsFair ok a = (lease : LeaseNo) (until now : ℕ) → a ≡ answer.Led (led_end.Ended lease until now)
    → (by : Session) × (ok.who ≡ Some (OfSession by)) × ok.ended by lease until now

ended_fair : (ok : Fairness) (o : Option Led) (e : LedEnd) (c : Client) → HearsFair ok (answer.Led e)
    → NoteFair ok (note.Client (led_plan o e c).out.note)
ended_fair ok None e c h = tt
ended_fair ok (Some l) (led_end.Done r) c h = tt
ended_fair ok (Some l) (led_end.Ended lease until now) c h = h lease until now refl
ended_fair ok (Some l) (led_end.Again w) c h = tt

told_fair : (ok : Fairness) (a : Answer) (c : Client) → HearsFair ok a → NoteFair ok (note.Client (fitting_plan a c).out.note)
told_fair ok (answer.Granted gs fresh e) c h = tt
told_fair ok (answer.Renewed rows e) c h = tt
told_fair ok (answer.Released count e) c h = tt
told_fair ok (answer.Shipped count e) c h = tt
told_fair ok (answer.Led e) c h = ended_fair ok c.led e c h
told_fair ok (answer.Recall number) c h = tt

pub answer_right : (ok : Fairness) (c : Client) (now k : ℕ) (a : Answer) → HearsFair ok a
    → (answer_plan c now k a).out.note ≢ client_note.Strange
    → IsRight ok (note.Client (answer_plan c now k a).out.note)
answer_right ok c now k a h plain = plain_client ok (answer_plan c now k a).out.note plain (heard (fits k c.exchange a (begun now c)))
  where
    heard : (b : Bool) → NoteFair ok (note.Client (cond b (fitting_plan a (begun now c)) (strange_plan (begun now c))).out.note)
    heard true = told_fair ok a (begun now c) h
    heard false = tt

-- ## At a server

-- what is noted, if it is an answer to a log
abbrev AnswersFair : Answers → ServerNote → Type 0
AnswersFair ok (server_note.Admits count at gaps) = ok count at gaps
AnswersFair ok n = Unit {0}

-- or that what is led is refused
abbrev AbortsFair : Fairness → ServerNote → Type 0
AbortsFair ok n = (txn : TxnNo) (lease : LeaseNo) (until now : ℕ) → n ≡ server_note.AbortsEnded txn lease until now
    → (by : Session) × ok.own txn by × ok.ended by lease until now

both_fair : (ok : Fairness) (n : ServerNote) → AnswersFair ok.answers n → AbortsFair ok n → NoteFair ok (note.Server n)
both_fair ok (server_note.Admits count at gaps) h aborts = h
both_fair ok (server_note.AbortsEnded txn lease until now) h aborts = aborts txn lease until now refl
both_fair ok n h aborts = tt

plain_server : (n : ServerNote) → n ≢ server_note.Strange → is_core_strange (note.Server n) ≡ false
plain_server server_note.Strange h = absurd (h refl)
plain_server n h = refl

turned_over_fair : (ok : Answers) (xs : List (List ℕ × Session)) (s : Server) → AnswersFair ok ((turn_over xs s).out.note)
turned_over_fair ok [] s = tt
turned_over_fair ok (x ∷ xs) s = tt

-- what is noted of paths is no answer to a log
path_fair : (ok : Answers) (n : ServerNote) → IsPathNote n → AnswersFair ok n
path_fair ok (server_note.Admits count at gaps) noted = absurd noted
path_fair ok n noted = tt

move_fair : (ok : Answers) (o : Option MoveError) (prefix : List ℕ) (to : ℕ) (s : Server)
    → AnswersFair ok ((move_at o prefix to s).out.note)
move_fair ok (Some why) prefix to s =
    refused (λ (x : Stepped). AnswersFair ok x.out.note) s (λ n ms paths asking given noted sent. path_fair ok n noted) why prefix to
move_fair ok None prefix to s = tt

parcel_fair : (ok : Answers) (b : Bool) (p : Parcel) (s : Server) → AnswersFair ok ((parcel_at b p s).out.note)
parcel_fair ok true p s = tt
parcel_fair ok false p s = tt

prepare_fair : (ok : Answers) (b : Bool) (v : AVote) (from : ℕ) (m : ToPrepare) (s : Server)
    → AnswersFair ok ((cond b (strange s) (votes v from m s)).out.note)
prepare_fair ok true v from m s = tt
prepare_fair ok false v from m s = tt

decide_fair : (ok : Answers) (b : Bool) (from : ℕ) (m : ToDecide) (s : Server)
    → AnswersFair ok ((cond b (applies from m s) (strange s)).out.note)
decide_fair ok true from m s = tt
decide_fair ok false from m s = tt

-- how a transaction ends is no answer to a log
end_fair : (ok : Answers) (txn : TxnNo) (e : LedEnd) → AnswersFair ok ((end_note txn e))
end_fair ok txn (led_end.Done r) = tt
end_fair ok txn (led_end.Ended lease until now) = tt
end_fair ok txn (led_end.Again w) = tt

abbrev NotesFair : Answers → Stepped → Type 0
NotesFair ok x = AnswersFair ok (x.out.note)

goes_fair : (ok : Answers) (n : ServerNote) (l : Leading) (path : Option PathAnswer) (sent : List (Peer × Msg)) (s : Server)
    → AnswersFair ok n → NotesFair ok (goes_on n l path sent s)
goes_fair ok n l path sent s h =
    each_goes (NotesFair ok) n l path sent s (end_fair ok l.leader.txn (end_of_decision (decision l.leader path))) h

vote_fair : (ok : Answers) (m : Voted) (s : Server) → NotesFair ok (vote_step m s)
vote_fair ok m s = each_vote (NotesFair ok) m s tt
    (λ l p to f. tt)
    (λ l v f. goes_fair ok (server_note.Waits l.leader.txn) (with_vote m.number v l) (path_for l.leader.mode l.leader.op s) [] s tt)
    (λ l p f. let v : AVote = vote_here s l.leader.session p in
    goes_fair ok (server_note.Waits l.leader.txn) (with_vote m.number v (asked_at m.number s.me l))
    (path_for l.leader.mode l.leader.op s) (recalls_for v s p) (after_own_vote l.leader.txn p v s) tt)

left_fair : (ok : Answers) (x : Ending) (left : List (ℕ × ℕ)) (s : Server) → NotesFair ok (done_with x left s)
left_fair ok x [] s = tt
left_fair ok x (y ∷ ys) s = tt

done_fair : (ok : Answers) (m : ToldDone) (s : Server) → NotesFair ok (done_step m s)
done_fair ok m s = each_done (NotesFair ok) m s tt (λ x left f. left_fair ok (without_done m.number x) left s)

peer_fair : (ok : Answers) (from : ℕ) (m : PeerMsg) (s : Server) → AnswersFair ok ((peer_step from m s).out.note)
peer_fair ok from (OfParcel p) s = parcel_fair ok (fits_here p s) p s
peer_fair ok from (Prepare m) s = prepare_fair ok (is_prepared m.txn m.number s.prepared) (vote_here s m.session m.part) from m s
peer_fair ok from (Vote m) s = vote_fair ok m s
peer_fair ok from (Decide m) s = decide_fair ok (is_prepared m.txn m.number s.prepared) from m s
peer_fair ok from (Done m) s = done_fair ok m s
peer_fair ok from m s =
    each_message (λ (x : Stepped). AnswersFair ok x.out.note) s (λ n ms paths asking given noted sent. path_fair ok n noted) from m tt

lead_fair : (ok : Answers) (by : Session) (m : ToLead) (s : Server) (x : Stepped) → LeadEnds by m s x → AnswersFair ok (x.out.note)
lead_fair ok by m s x (unled l) = tt
lead_fair ok by m s x (put_off w l r) = tt
lead_fair ok by m s x (path_wanted top dir l o) = tt
lead_fair ok by m s x (path_kept file txn l o) = tt
lead_fair ok by m s x (txn_begun mode l b) =
    let g : Round = round_of mode by m s in
    goes_fair ok (server_note.Prepares (txn_of s)) (record { leader = leader_with mode (txn_of s) by m g.votes; at = g.at })
    (path_for mode m.op s) g.send g.server tt

-- where each fair answer to the entries is one of these, so is what is noted
ship_fair : (ok : Answers) (rows : List Row) (by : Session) (now : ℕ) (entries : List Entry) (n : ServerNote)
    → ((count : ℕ) (at : End) (gaps : List ℕ) → IsFairEnd rows by now entries count at gaps → ok count at gaps)
    → IsFairNote rows by now entries n → AnswersFair ok n
ship_fair ok rows by now entries (server_note.Admits count at gaps) taken h = taken count at gaps h
ship_fair ok rows by now entries n taken h = tt

-- each fair answer to the message is one of these
abbrev pub Takes : Answers → List Row → Session → ℕ → ClientMsg → Type 0
Takes ok rows by now (Ship entries) = (count : ℕ) (at : End) (gaps : List ℕ) → IsFairEnd rows by now entries count at gaps
    → ok count at gaps
Takes ok rows by now m = Unit {0}

module _ (laws : SerialLaws) (skew greatest now k : ℕ) (s : Server) (c : Cluster) (at : slice_get c.servers k ≡ Some s)
    (h : TimedHolds skew greatest c) (clock : s.last ≤ greatest) (within : greatest ≤ now + skew) where
  abbrev pub rows_then : ServerEvent → List Row
  rows_then e = rows_in (after_step k e (step s now e) c)

  -- of an event that brings a message of a session
  abbrev pub TakesEvent : Answers → ServerEvent → Type 0
  TakesEvent ok (FromClient by m) = Takes ok (rows_then (FromClient by m)) by (max s.last now) m
  TakesEvent ok e = Unit {0}

  message_fair : (ok : Answers) (by : Session) (m : ClientMsg) → IsThere k (FromClient by m) c
      → Takes ok (rows_then (FromClient by m)) by (max s.last now) m → AnswersFair ok ((step s now (FromClient by m)).out.note)
  message_fair ok by (Ask items dir) there takes = tt
  message_fair ok by (Renew pairs) there takes = tt
  message_fair ok by (Release pairs) there takes = tt
  message_fair ok by (Lead m) there takes = let b : Server = server_begun now s in lead_fair ok by m b (lead_step by m b) (lead_ends by m b)
  message_fair ok by (Ship entries) there takes = ship_fair ok (rows_then (FromClient by (Ship entries))) by (max s.last now) entries
      (step s now (FromClient by (Ship entries))).out.note takes (laws.fair skew greatest now k by entries s c at within there h.all.holds)

  event_fair : (ok : Answers) (e : ServerEvent) → IsThere k e c → TakesEvent ok e → AnswersFair ok ((step s now e).out.note)
  event_fair ok (FromClient by m) there takes = message_fair ok by m there takes
  event_fair ok (FromPeer from m) there takes = peer_fair ok from m (server_begun now s)
  event_fair ok Turn there takes = let b : Server = server_begun now s in turned_over_fair ok (lapsed_in b) b
  event_fair ok (TheRecall field) there takes = tt
  event_fair ok (Move prefix to) there takes = let b : Server = server_begun now s in
      move_fair ok (refusal_here prefix to b) prefix to b

  -- where a lease had ended after the event, it is fair to say so
  abbrev pub TakesEnded : Fairness → ServerEvent → Type 0
  TakesEnded ok e = (by : Session) (lease : LeaseNo) (until reading : ℕ) → WasEnded (after_step k e (step s now e) c) by lease until reading
      → ok.ended by lease until reading

  -- and of the session that a transaction is of
  abbrev pub TakesOwn : Fairness → ServerEvent → Type 0
  TakesOwn ok e = (txn : TxnNo) (by : Session) → session_of_txn c.servers (asker_of e) txn ≡ Some by → ok.own txn by

  pub event_right : (ok : Fairness) (e : ServerEvent) → IsThere k e c → TakesEvent ok.answers e → TakesOwn ok e → TakesEnded ok e
      → IsRight ok (note.Server (step s now e).out.note)
  event_right ok e there takes own ended =
      let later : ClusterStands skew (max greatest now) c = laws.rises skew greatest (max greatest now) c (omega arith) h.all in
      record {
        plain = plain_server (step s now e).out.note (laws.server_plain skew (max greatest now) now k e s c at (omega arith) there later);
        fair = both_fair ok (step s now e).out.note (event_fair ok.answers e there takes) (λ txn lease until reading is.
            let q = laws.fair_note skew (max greatest now) now k e s c at (omega (arith, clock)) (omega (arith, within)) there later.holds
            h.fair txn lease until reading is in
            (q.0, own txn q.0 q.1, ended q.0 lease until reading q.2));
      }
