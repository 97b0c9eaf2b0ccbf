-- What a leader does with votes and decisions.
use Rattle.std.proofs.Common.{◌≡◌, ◌==◌, ◌&&◌, ◌+◌, ◌<◌, ◌≤◌, ℕ, Bool, true, false, not, List}
use Rattle.std.proofs.Common.{[], ◌∷◌, ◌++◌, cond, length, map, refl, ap, ap₂, ◌∙◌, subst, arith}
use Rattle.std.specs.Prelude.{Option, Some, None, is_some, slice_get}
use Rattle.std.specs.List.{filter, flat_map}
use Rattle.std.proofs.lemmas.Bool.{not-true}
use Rattle.std.proofs.lemmas.Bool.Decides.{nat_tests}
use Rattle.std.proofs.lemmas.List.{append-nil}
use Rattle.fs_ident.specs.In.{In}
use Rattle.fs_ident.specs.declared.actor.Peer.{Peer}
use Rattle.fs_ident.specs.declared.actor.Session.{Session}
use Rattle.fs_ident.specs.declared.actor.TxnNo.{TxnNo}
use Rattle.fs_ident.proofs.Passing.{found}
use Rattle.fs_field.specs.Table.{is_lock_of, same_txn}
use Rattle.fs_field.specs.declared.effect.Effect.{Effect}
use Rattle.fs_field.specs.declared.path.PathAnswer.{PathAnswer}
use Rattle.fs_field.specs.declared.row.Row.{Row}
use Rattle.fs_field.specs.declared.used.Part.{Part}
use Rattle.fs_field.specs.declared.vote.Vote.{Vote}
use Rattle.fs_field.specs.declared.vote.Vote.TheVariants.{Yes, Ended, Moved, PathsOut}
use Rattle.fs_map.specs.Map.{server_of}
use Rattle.fs_model.specs.declared.reply.Reply.TheVariants.{Cycle, Renamed}
use Rattle.fs_msg.specs.declared.answer.Answer.TheVariants as answer
use Rattle.fs_msg.specs.declared.done.Done.{Done}
use Rattle.fs_msg.specs.declared.lead.Lead.{Lead}
use Rattle.fs_msg.specs.declared.msg.Msg.{Msg}
use Rattle.fs_msg.specs.declared.peer_msg.PeerMsg.TheVariants as peer
use Rattle.fs_msg.specs.declared.server_note.ServerNote.{ServerNote}
use Rattle.fs_msg.specs.declared.server_note.ServerNote.TheVariants as note
use Rattle.fs_msg.specs.declared.voted.Voted.{Voted}
use Rattle.fs_record.specs.Applied.{records_after_all}
use Rattle.fs_record.specs.declared.led_end.LedEnd.{LedEnd}
use Rattle.fs_txn.specs.Deciding.{decision, keeps_rows, told_effects}
use Rattle.fs_txn.specs.Leading.{awaits_done, elsewhere, ending_of, leading_of, own_effects, own_parts, said_yes, without_done, yes_from}
use Rattle.fs_txn.specs.Locks.{rows_unlocked}
use Rattle.fs_txn.specs.Votes.{Votes, awaits, is_full}
use Rattle.fs_txn.specs.declared.decision.Decision.{Decision}
use Rattle.fs_txn.specs.declared.decision.Decision.TheVariants.{Commit, Abort}
use Rattle.fs_txn.specs.declared.leading.Ending.{Ending}
use Rattle.fs_txn.specs.declared.leading.Leading.{Leading}
use Rattle.fs_txn.proofs.Keys.{txn_is}
use Rattle.fs_server.specs.Begins.{Round, asked_part, first_round, leader_with, own_part, part_round, parts_in, round_of, rounds, txn_of}
use Rattle.fs_server.specs.Concludes.{admitted_of, concludes, end_of_decision, ends_now, goes_on, path_for, tells, waits}
use Rattle.fs_server.specs.Counts.{after_own_vote, asked_at, comes_home, counts, counts_own, done_of, done_step, done_with, seeks, sent_on}
use Rattle.fs_server.specs.Counts.{vote_of, vote_step, voted, with_vote}
use Rattle.fs_server.specs.Follows.{recalls_for, to_server, vote_here}
use Rattle.fs_server.specs.LeadingLaws.{awaits_this, awaits_vote, of_number}
use Rattle.fs_server.specs.Leads.{lead_step}
use Rattle.fs_server.specs.Server.{Stepped, is_mine, strange, to_session}
use Rattle.fs_server.specs.declared.state.Server.{Server}
use Rattle.fs_server.proofs.Following.{none_kept}
use Rattle.fs_server.proofs.Leading.{LeadEnds, begun, kept, lead_ends, put_off, unled, wanted}
use Rattle.fs_server.proofs.Splitting.{cycle_changes_none, passes}

-- ## What nobody awaits

pub vote_unawaited : (m : Voted) (s : Server) → awaits_vote m (leading_of m.txn s.leading) ≡ false → vote_step m s ≡ strange s
vote_unawaited m s = at (leading_of m.txn s.leading)
  where
    at : (o : Option Leading) → awaits_vote m o ≡ false → vote_of o m s ≡ strange s
    at None h = refl
    at (Some l) h = ap (λ b. cond b (voted m.number m.vote l s) (strange s)) h

pub done_unawaited : (m : Done) (s : Server) → awaits_this m (ending_of m.txn s.ending) ≡ false → done_step m s ≡ strange s
done_unawaited m s = at (ending_of m.txn s.ending)
  where
    at : (o : Option Ending) → awaits_this m o ≡ false → done_of o m s ≡ strange s
    at None h = refl
    at (Some x) h = ap (λ b. cond b (done_with (without_done m.number x) (without_done m.number x).awaits s) (strange s)) h

-- ## What is awaited is done

done_so : (m : Done) (s : Server) (x : Ending) (left : List (ℕ × ℕ)) → ending_of m.txn s.ending ≡ Some x
    → awaits_done m.number x.awaits ≡ true
    → (without_done m.number x).awaits ≡ left → done_step m s ≡ done_with (without_done m.number x) left s
done_so m s x left f a e =
    ap (λ o. done_of o m s) f
    ∙ ap (λ b. cond b (done_with (without_done m.number x) (without_done m.number x).awaits s) (strange s)) a
    ∙ ap (λ xs. done_with (without_done m.number x) xs s) e

pub rename_commits : (l : Leading) (path : Option PathAnswer) (sent : List (Peer × Msg)) (s : Server) (effects : List (List Effect))
    → decision l.leader path ≡ Commit Renamed effects
    → is_some (slice_get (elsewhere s.me l) 0) ≡ true → (concludes l path sent s).server.rows ≡ s.rows
rename_commits l path sent s effects d o = ap₂ (λ d b. cond (keeps_rows d && b) s.rows (rows_unlocked l.leader.txn s.rows)) d o

pub rename_waits : (m : Done) (s : Server) (x : Ending) (y : ℕ × ℕ) (ys : List (ℕ × ℕ)) → ending_of m.txn s.ending ≡ Some x
    → awaits_done m.number x.awaits ≡ true
    → (without_done m.number x).awaits ≡ y ∷ ys → ((done_step m s).server.rows ≡ s.rows) × ((done_step m s).out.send ≡ [])
rename_waits m s x y ys f a e = (
  ap (λ (t : Stepped). t.server.rows) (done_so m s x (y ∷ ys) f a e),
  ap (λ (t : Stepped). t.out.send)
      (done_so m s x (y ∷ ys) f a e),
)

pub last_is_done : (m : Done) (s : Server) (x : Ending) → ending_of m.txn s.ending ≡ Some x → awaits_done m.number x.awaits ≡ true
    → (without_done m.number x).awaits ≡ [] → (r : Row) → In r (done_step m s).server.rows → is_lock_of m.txn r.lock ≡ false
last_is_done m s x f a e r i =
    let its : x.txn ≡ m.txn = txn_is x.txn m.txn (found (λ (y : Ending). same_txn y.txn m.txn) s.ending x f).1 in
    none_kept m.txn s.rows r (subst (In r) (ap (λ (t : Stepped). t.server.rows) (done_so m s x [] f a e)
    ∙ ap (λ txn. rows_unlocked txn s.rows) its) i)

-- ## Files that are kept

pub decision_frees : (l : Leading) (path : Option PathAnswer) (sent : List (Peer × Msg)) (s : Server) (x : List ℕ × TxnNo)
    → In x (concludes l path sent s).server.paths.frozen → same_txn x.1 l.leader.txn ≡ false
decision_frees l path sent s x i = not-true (same_txn x.1 l.leader.txn) (passes (λ y. not (same_txn y.1 l.leader.txn)) x s.paths.frozen i)

-- ## What the session is told

pub told_at_once : (l : Leading) (path : Option PathAnswer) (sent : List (Peer × Msg)) (s : Server) → elsewhere s.me l ≡ []
    → (concludes l path sent s).out.send ≡ sent ++ to_session l.leader.session (answer.Led (end_of_decision (decision l.leader path))) ∷ []
told_at_once l path sent s h =
    ap (λ out. sent ++ (tells l.leader.txn (decision l.leader path) out ++ ends_now out l.leader.session
    (end_of_decision (decision l.leader path)))) h

pub told_later : (l : Leading) (path : Option PathAnswer) (sent : List (Peer × Msg)) (s : Server)
    → is_some (slice_get (elsewhere s.me l) 0) ≡ true → (concludes l path sent s).out.send ≡ sent ++ tells l.leader.txn (decision l.leader path) (elsewhere s.me l)
told_later l path sent s = at (elsewhere s.me l)
  where
    at : (out : List (ℕ × ℕ)) → is_some (slice_get out 0) ≡ true
        → sent ++ (tells l.leader.txn (decision l.leader path) out ++ ends_now out l.leader.session
        (end_of_decision (decision l.leader path)))
        ≡ sent ++ tells l.leader.txn (decision l.leader path) out
    at [] h = absurd (cc h)
    at (x ∷ xs) h = ap (λ ms. sent ++ ms) (append-nil (tells l.leader.txn (decision l.leader path) (x ∷ xs)))

pub told_when_done : (m : Done) (s : Server) (x : Ending) → ending_of m.txn s.ending ≡ Some x → awaits_done m.number x.awaits ≡ true
    → (without_done m.number x).awaits ≡ [] → (done_step m s).out.send ≡ to_session x.session (answer.Led x.end) ∷ []
told_when_done m s x f a e = ap (λ (t : Stepped). t.out.send) (done_so m s x [] f a e)

-- ## Each part is told once

abbrev out_from : ℕ → ℕ → Votes → List ℕ → List (ℕ × ℕ)
out_from me first votes at = filter (λ (x : ℕ × ℕ). not (x.1 == me)) (yes_from first votes at)

none_before : (me number first : ℕ) (votes : Votes) (at : List ℕ) → number < first → of_number number (out_from me first votes at) ≡ []
none_before me number first [] at lt = refl
none_before me number first (v ∷ vs) [] lt = refl
none_before me number first (v ∷ vs) (k ∷ ks) lt = by (said_yes v) (not (k == me)) (none_before me number (first + 1) vs ks (omega arith))
  where
    differs : (first == number) ≡ false
    differs = after number first lt
      where
        after : (a b : ℕ) → a < b → (b == a) ≡ false
        after a b l = grind (arith, nat_tests)

    by : (yes away : Bool) → of_number number (out_from me (first + 1) vs ks) ≡ []
        → of_number number (filter (λ (x : ℕ × ℕ). not (x.1 == me))
        (cond yes ((first, k) ∷ yes_from (first + 1) vs ks) (yes_from (first + 1) vs ks))) ≡ []
    by false away rest = rest
    by true away rest =
        go (not (k == me)) ∙ rest
      where
        go : (b : Bool) → of_number number (cond b ((first, k) ∷ out_from me (first + 1) vs ks) (out_from me (first + 1) vs ks))
            ≡ of_number number (out_from me (first + 1) vs ks)
        go true = ap (λ t. cond t ((first, k) ∷ of_number number (out_from me (first + 1) vs ks))
            (of_number number (out_from me (first + 1) vs ks))) differs
        go false = refl

at_most_one : (me number first : ℕ) (votes : Votes) (at : List ℕ) → length (of_number number (out_from me first votes at)) ≤ 1
at_most_one me number first [] at = omega arith
at_most_one me number first (v ∷ vs) [] = omega arith
at_most_one me number first (v ∷ vs) (k ∷ ks) = by (said_yes v) (at_most_one me number (first + 1) vs ks)
  where
    here : (b : Bool) → (first == number) ≡ b → length (of_number number (out_from me (first + 1) vs ks)) ≤ 1
        → length (cond b ((first, k) ∷ of_number number (out_from me (first + 1) vs ks))
        (of_number number (out_from me (first + 1) vs ks))) ≤ 1
    here true e rest = let none : length (of_number number (out_from me (first + 1) vs ks))
        ≡ 0 = ap length (none_before me number (first + 1) vs ks (below first number e)) in omega arith
      where
        below : (a b : ℕ) → (a == b) ≡ true → b < a + 1
        below a b e = grind (arith, nat_tests)
    here false e rest = rest

    by : (yes : Bool) → length (of_number number (out_from me (first + 1) vs ks)) ≤ 1
        → length (of_number number (filter (λ (x : ℕ × ℕ). not (x.1 == me))
        (cond yes ((first, k) ∷ yes_from (first + 1) vs ks) (yes_from (first + 1) vs ks)))) ≤ 1
    by false rest = rest
    by true rest = go (not (k == me))
      where
        go : (b : Bool)
            → length (of_number number (cond b ((first, k) ∷ out_from me (first + 1) vs ks) (out_from me (first + 1) vs ks))) ≤ 1
        go true = here (first == number) refl rest
        go false = rest

pub told_once : (me : ℕ) (l : Leading) (number : ℕ) → length (of_number number (elsewhere me l)) ≤ 1
told_once me l number = at_most_one me number 0 l.leader.votes l.at

-- ## Aborts

none_of_any : (e : LedEnd) (parts : List (ℕ × ℕ)) → flat_map (λ (x : ℕ × ℕ). told_effects (Abort e) x.0) parts ≡ []
none_of_any e [] = refl
none_of_any e (x ∷ xs) = none_of_any e xs

pub abort_changes_none : (me : ℕ) (l : Leading) (e : LedEnd) → own_effects me l (Abort e) ≡ []
abort_changes_none me l e = none_of_any e (own_parts me l)

pub abort_here : (l : Leading) (path : Option PathAnswer) (sent : List (Peer × Msg)) (s : Server) (e : LedEnd)
    → decision l.leader path ≡ Abort e → ((concludes l path sent s).server.records ≡ s.records) × ((concludes l path sent s).out.admitted ≡ [])
abort_here l path sent s e d = (
  ap (λ d. records_after_all s.records (own_effects s.me l d)) d ∙ ap (records_after_all s.records) (abort_changes_none s.me l e),
  ap (λ d. admitted_of d l.leader) d,
)

pub abort_told : (txn : TxnNo) (e : LedEnd) (out : List (ℕ × ℕ)) → tells txn (Abort e) out
    ≡ map (λ (x : ℕ × ℕ). to_server x.1 (peer.Decide (record { txn = txn; number = x.0; effects = [] }))) out
abort_told txn e out = refl

-- ## Cycles

pub cycle_here : (l : Leading) (path : Option PathAnswer) (sent : List (Peer × Msg)) (s : Server) (effects : List (List Effect))
    → decision l.leader path ≡ Commit Cycle effects → (concludes l path sent s).server.records ≡ s.records
cycle_here l path sent s effects d =
    ap (λ d. records_after_all s.records (own_effects s.me l d)) d
    ∙ ap (records_after_all s.records) (cycle_changes_none s.me l path effects d)

-- ## Nothing is admitted

concludes_unadmitted : (l : Leading) (path : Option PathAnswer) (sent : List (Peer × Msg)) (s : Server)
    → (concludes l path sent s).out.admitted ≡ [] → (concludes l path sent s).server.records ≡ s.records
concludes_unadmitted l path sent s = at (decision l.leader path)
  where
    at : (d : Decision) → admitted_of d l.leader ≡ [] → records_after_all s.records (own_effects s.me l d) ≡ s.records
    at (Commit r effects) h = absurd (cc h)
    at (Abort e) h = ap (records_after_all s.records) (abort_changes_none s.me l e)

goes_on_unadmitted : (n : ServerNote) (l : Leading) (path : Option PathAnswer) (sent : List (Peer × Msg)) (s : Server)
    → (goes_on n l path sent s).out.admitted ≡ []
    → (goes_on n l path sent s).server.records ≡ s.records
goes_on_unadmitted n l path sent s = at (is_full l.leader.votes)
  where
    at : (b : Bool) → (cond b (concludes l path sent s) (waits n l sent s)).out.admitted ≡ []
        → (cond b (concludes l path sent s) (waits n l sent s)).server.records ≡ s.records
    at true h = concludes_unadmitted l path sent s h
    at false h = refl

-- parts that vote or are asked for change no record
rounds_records : (txn : TxnNo) (number : ℕ) (by : Session) (ps : List Part) (r : Round)
    → (rounds txn number by ps r).server.records ≡ r.server.records
rounds_records txn number by [] r = refl
rounds_records txn number by (p ∷ ps) r =
    rounds_records txn (number + 1) by ps (part_round txn number by p r) ∙ at (is_mine r.server p.file)
  where
    at : (b : Bool) → (cond b (own_part txn p (vote_here r.server by p) r)
        (asked_part txn number by p (server_of r.server.map p.file) r)).server.records ≡ r.server.records
    at true = refl
    at false = refl

pub lead_unadmitted : (by : Session) (m : Lead) (s : Server) → (lead_step by m s).out.admitted ≡ []
    → (lead_step by m s).server.records ≡ s.records
lead_unadmitted by m s = at (lead_step by m s) (lead_ends by m s)
  where
    at : (x : Stepped) → LeadEnds by m s x → x.out.admitted ≡ [] → x.server.records ≡ s.records
    at x (unled l) h = refl
    at x (put_off w l r) h = refl
    at x (wanted top dir l o) h = refl
    at x (kept file txn l o) h = refl
    at x (begun mode l b) h =
        let g : Round = round_of mode by m s in
        goes_on_unadmitted (note.Prepares (txn_of s)) (record { leader = leader_with mode (txn_of s) by m g.votes; at = g.at })
        (path_for mode m.op s) g.send g.server h
        ∙ rounds_records (txn_of s) 0 by (parts_in mode m) (first_round s)

pub vote_unadmitted : (m : Voted) (s : Server) → (vote_step m s).out.admitted ≡ [] → (vote_step m s).server.records ≡ s.records
vote_unadmitted m s = at (leading_of m.txn s.leading)
  where
    counted : (v : Vote) (l : Leading) (t : Server) → (counts m.number v l t).out.admitted ≡ []
        → (counts m.number v l t).server.records ≡ t.records
    counted v l t = goes_on_unadmitted (note.Waits l.leader.txn) (with_vote m.number v l) (path_for l.leader.mode l.leader.op t) [] t

    home : (p : Part) (l : Leading) (b : Bool) → (cond b (counts_own m.number p (vote_here s l.leader.session p) l s)
        (seeks m.number (server_of s.map p.file) p l s)).out.admitted ≡ []
        → (cond b (counts_own m.number p (vote_here s l.leader.session p) l s)
        (seeks m.number (server_of s.map p.file) p l s)).server.records ≡ s.records
    home p l true h = let v : Vote = vote_here s l.leader.session p in goes_on_unadmitted (note.Waits l.leader.txn)
        (with_vote m.number v (asked_at m.number s.me l)) (path_for l.leader.mode l.leader.op s) (recalls_for v s p)
        (after_own_vote l.leader.txn p v s) h
    home p l false h = refl

    sent : (to : ℕ) (l : Leading) (o : Option Part) → (sent_on m.number to o l s).out.admitted ≡ []
        → (sent_on m.number to o l s).server.records ≡ s.records
    sent to l None h = refl
    sent to l (Some p) h = by (to == s.me) h
      where
        by : (b : Bool) → (cond b (comes_home m.number p l s) (seeks m.number to p l s)).out.admitted ≡ []
            → (cond b (comes_home m.number p l s) (seeks m.number to p l s)).server.records ≡ s.records
        by true h = home p l (is_mine s p.file) h
        by false h = refl

    told : (v : Vote) (l : Leading) → (voted m.number v l s).out.admitted ≡ [] → (voted m.number v l s).server.records ≡ s.records
    told Yes l h = counted Yes l s h
    told (Ended lease until now) l h = counted (Ended lease until now) l s h
    told (Moved prefix to) l h = sent to l (slice_get l.leader.parts m.number) h
    told (PathsOut lease) l h = counted (PathsOut lease) l s h

    at : (o : Option Leading) → (vote_of o m s).out.admitted ≡ [] → (vote_of o m s).server.records ≡ s.records
    at None h = refl
    at (Some l) h = by (awaits l.leader m.number) h
      where
        by : (b : Bool) → (cond b (voted m.number m.vote l s) (strange s)).out.admitted ≡ []
            → (cond b (voted m.number m.vote l s) (strange s)).server.records ≡ s.records
        by true h = told m.vote l h
        by false h = refl
