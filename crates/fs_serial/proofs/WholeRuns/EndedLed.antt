-- An operation is led, and its votes are counted: what is told of leases that had ended is right then.
use Rattle.std.proofs.Common.{◌≡◌, ◌≤◌, ◌⊎◌, ◌==◌, ℕ, ◌+◌, Bool, true, false, List, [], ◌∷◌, ◌++◌, cond, append-nil, refl, sym, ap, ap₂}
use Rattle.std.proofs.Common.{◌∙◌, subst, inl, inr, arith}
use Rattle.std.specs.Prelude.{Option, Some, None, slice_get, slice_set}
use Rattle.fs_ident.specs.In.{In}
use Rattle.fs_ident.specs.declared.actor.LeaseNo.{LeaseNo}
use Rattle.fs_ident.specs.declared.actor.Peer.{Peer}
use Rattle.fs_ident.specs.declared.actor.Peer.TheVariants.{Client as OfSession, Server as OfServer}
use Rattle.fs_ident.specs.declared.actor.Session.{Session}
use Rattle.fs_ident.specs.declared.actor.TxnNo.{TxnNo}
use Rattle.fs_ident.proofs.Passing.{found}
use Rattle.fs_ident.proofs.Same.{itself}
use Rattle.fs_ident.proofs.Standing.{In-append, In-got}
use Rattle.fs_field.specs.Table.{same_txn}
use Rattle.fs_field.specs.declared.used.Part.{Part}
use Rattle.fs_field.specs.declared.vote.Vote.{Vote}
use Rattle.fs_field.specs.declared.vote.Vote.TheVariants as vote
use Rattle.fs_map.specs.Map.{server_of}
use Rattle.fs_record.specs.declared.led_end.LedEnd.TheVariants as led
use Rattle.fs_record.specs.declared.led_end.Why.{Why}
use Rattle.fs_record.specs.declared.led_end.Why.TheVariants as why
use Rattle.fs_msg.specs.declared.answer.Answer.{Answer}
use Rattle.fs_msg.specs.declared.answer.Answer.TheVariants as answer
use Rattle.fs_msg.specs.declared.client_msg.ClientMsg.{ClientMsg}
use Rattle.fs_msg.specs.declared.client_msg.ClientMsg.TheVariants.{Lead}
use Rattle.fs_msg.specs.declared.lead.Lead.{Lead as ToLead}
use Rattle.fs_msg.specs.declared.msg.Msg.{Msg}
use Rattle.fs_msg.specs.declared.msg.Msg.TheVariants as msg
use Rattle.fs_msg.specs.declared.peer_msg.PeerMsg.TheVariants as peer
use Rattle.fs_msg.specs.declared.server_note.ServerNote.{ServerNote}
use Rattle.fs_msg.specs.declared.server_note.ServerNote.TheVariants as note
use Rattle.fs_msg.specs.declared.voted.Voted.{Voted as VotedMsg}
use Rattle.fs_server.specs.Begins.{Round, first_round, leader_with, parts_in, round_of, rounds, txn_of}
use Rattle.fs_server.specs.Concludes.{goes_on, path_for, waits}
use Rattle.fs_server.specs.Counts.{after_own_vote, ask_for, asked_at, comes_home, counts, counts_own, seeks, sent_on, vote_step, voted}
use Rattle.fs_server.specs.Counts.{with_vote}
use Rattle.fs_server.specs.Follows.{recalls_for, to_server, vote_here}
use Rattle.fs_server.specs.Leads.{lead_step, refuses}
use Rattle.fs_server.specs.LeadingLaws.{CommitSplits}
use Rattle.fs_server.specs.Laws.{BeginsIn}
use Rattle.fs_server.specs.Server.{Stepped, is_mine, to_session}
use Rattle.fs_server.specs.declared.event.ServerEvent.{ServerEvent}
use Rattle.fs_server.specs.declared.event.ServerEvent.TheVariants as event
use Rattle.fs_server.specs.declared.state.Server.{Server}
use Rattle.fs_server.specs.PathsHere.{asks_nobody, asks_up, with_asking}
use Rattle.fs_server.proofs.Leading.{LeadEnds, begun, kept, lead_ends, put_off, unled, wanted}
use Rattle.fs_txn.specs.Leading.{leading_of}
use Rattle.fs_txn.specs.Votes.{Votes, is_moved, votes_after}
use Rattle.fs_txn.specs.declared.leading.Leading.{Leading}
use Rattle.fs_txn.specs.declared.mode.Mode2.{Mode2}
use Rattle.fs_txn.proofs.Keys.{txn_is}
use Rattle.fs_serial.specs.Cluster.{Cluster, InFlight, IsThere, after_step, in_flight_from, is_between, parcels_of, without_arrived}
use Rattle.fs_serial.specs.EndedLeases.{EndsFair, WasEnded, asker_of, session_led, session_of_txn}
use Rattle.fs_serial.specs.Exchange.{IsToBeLed}
use Rattle.fs_serial.specs.Leading.{IsLeading}
use Rattle.fs_serial.specs.Owed.{ends_in}
use Rattle.fs_serial.specs.Seen.{ClusterHolds, world_of}
use Rattle.fs_serial.specs.Words.{leading_at, led_in}
use Rattle.fs_serial.proofs.LedOperations.LedSteps.{to_lead}
use Rattle.fs_serial.proofs.Lists.SetAt.{In_set}
use Rattle.fs_serial.proofs.Moves.Parcels.{parcels-append}
use Rattle.fs_serial.proofs.Transactions.AwaitedWords.{IsAwaited, vote_here_is, vote_is}
use Rattle.fs_serial.proofs.Transactions.Desks.{was_at}
use Rattle.fs_serial.proofs.Transactions.PlacesAfter.{AreRelocked, relocked_not, voted_so, word_taken}
use Rattle.fs_serial.proofs.Transactions.Recalled.{IsPathRecall, recalls_are, recalls_hand_nothing}
use Rattle.fs_serial.proofs.Transactions.RoundsLocks.{round_by}
use Rattle.fs_serial.proofs.Transactions.Tables.{in_with_leading}
use Rattle.fs_serial.proofs.Transactions.Undecided.{up_asked, up_led}
use Rattle.fs_serial.proofs.WholeRuns.EndedDecisions.{IsRightStep, goes_on_fair, noted_none}
use Rattle.fs_serial.proofs.WholeRuns.EndedStay.{RowsLater, stepped_later}
use Rattle.fs_serial.proofs.WholeRuns.EndedSteps.{VotesFair, event_ending, event_fair, event_leading, event_one, event_still}
use Rattle.fs_serial.proofs.WholeRuns.EndedVotes.{rounds_said, vote_fair}
use Rattle.fs_serial.proofs.WholeRuns.LedQuestions as questions
use Rattle.fs_serial.proofs.WholeRuns.LedQuestions.{asks, rounds_relock}
use Rattle.fs_serial.proofs.WholeRuns.LedVotes.{counted_waits, own_waits, q}

-- ## What is asked for

-- the message asks a server for a part, or for a path lease, or for one back
abbrev pub IsAsk : Peer × Msg → Type 0
IsAsk (OfServer to, msg.Peer (peer.PathAsk file dir)) = Unit {0}
IsAsk (OfServer to, msg.Peer (peer.Prepare m)) = Unit {0}
IsAsk (OfServer to, msg.Peer (peer.PathRecall number)) = Unit {0}
IsAsk m = ⊥

one_ask : (txn : TxnNo) (number : ℕ) (by : Session) (p : Part) (to : ℕ) (m : Peer × Msg)
    → In m (to_server to (ask_for txn number by p) ∷ []) → IsAsk m
one_ask txn number by p to m (inl e) = subst IsAsk (sym e) tt
one_ask txn number by p to m (inr z) = absurd z

recall_asks : (m : Peer × Msg) → IsPathRecall m → IsAsk m
recall_asks (OfServer to, msg.Peer (peer.PathRecall number)) is = tt
recall_asks m is = absurd is

recalls_ask : (v : Vote) (s : Server) (p : Part) (m : Peer × Msg) → In m (recalls_for v s p) → IsAsk m
recalls_ask v s p m i = recall_asks m (recalls_are v s p m i)

-- it is asked for, unless it was
up_asks : (top dir : List ℕ) (s : Server) (m : Peer × Msg) → In m (asks_up top dir s) → IsAsk m
up_asks top dir s m = by (asks_nobody top dir s)
  where
    ask : List (Peer × Msg)
    ask = to_server (server_of s.map dir) (peer.PathAsk top dir) ∷ []

    by : (b : Bool) → In m (cond b [] ask) → IsAsk m
    by true i = absurd i
    by false (inl e) = subst IsAsk (sym e) tt
    by false (inr z) = absurd z

up_hands_nothing : (k : ℕ) (top dir : List ℕ) (s : Server) → parcels_of (in_flight_from k (asks_up top dir s)) ≡ []
up_hands_nothing k top dir s = by (asks_nobody top dir s)
  where
    by : (b : Bool)
        → parcels_of (in_flight_from k (cond b [] (to_server (server_of s.map dir) (peer.PathAsk top dir) ∷ []))) ≡ []
    by true = refl
    by false = refl

rounds_asks : (txn : TxnNo) (number : ℕ) (by : Session) (ps : List Part) (r : Round) → ((m : Peer × Msg) → In m r.send → IsAsk m)
    → (m : Peer × Msg) → In m (rounds txn number by ps r).send → IsAsk m
rounds_asks txn number by [] r are = are
rounds_asks txn number by (p ∷ ps) r are =
    rounds_asks txn (number + 1) by ps (round_by txn number by p r (is_mine r.server p.file)) (one (is_mine r.server p.file))
  where
    one : (b : Bool) (m : Peer × Msg) → In m (round_by txn number by p r b).send → IsAsk m
    one true m i = elim (In-append m r.send (recalls_for (vote_here r.server by p) r.server p) i) as (λ _. IsAsk m) [
      | inl j ↦ are m j
      | inr j ↦ recalls_ask (vote_here r.server by p) r.server p m j
    ]
    one false m i = elim (In-append m r.send (to_server (server_of r.server.map p.file) (ask_for txn number by p) ∷ []) i) as
        (λ _. IsAsk m) [
          | inl j ↦ are m j
          | inr j ↦ one_ask txn number by p (server_of r.server.map p.file) m j
        ]

-- an answer is no vote
pub answer_votes : (by : Session) (a : Answer) (to : ℕ) (v : VotedMsg) → In (OfServer to, msg.Peer (peer.Vote v)) (to_session by a ∷ []) → ⊥
answer_votes by a to v (inl e) = let wrong : OfServer to ≡ OfSession by = ap (λ (p : Peer × Msg). p.0) e in absurd (cc wrong)
answer_votes by a to v (inr z) = z

-- a vote that stands then stood, or is the new one
votes_in : (votes : Votes) (number : ℕ) (v : Vote) (x : Option Vote) → In x (votes_after votes number v) → (x ≡ Some v) ⊎ In x votes
votes_in votes number vote.Yes x i = In_set votes number (Some vote.Yes) x i
votes_in votes number (vote.Ended n u a) x i = In_set votes number (Some (vote.Ended n u a)) x i
votes_in votes number (vote.PathsOut n) x i = In_set votes number (Some (vote.PathsOut n)) x i
votes_in votes number (vote.Moved prefix to) x i = inr i

pub parcels_then : (k : ℕ) (c : Cluster) (left : List InFlight) (ms : List (Peer × Msg)) → parcels_of left ≡ parcels_of c.in_flight
    → parcels_of (in_flight_from k ms) ≡ [] → parcels_of (left ++ in_flight_from k ms) ≡ parcels_of c.in_flight
parcels_then k c left ms same none =
    parcels-append left (in_flight_from k ms) ∙ ap₂ (λ xs ys. xs ++ ys) same none ∙ append-nil (parcels_of c.in_flight)

-- ## It waits

module _ (skew greatest k : ℕ) (c : Cluster) (s : Server) (at : slice_get c.servers k ≡ Some s) (h : ClusterHolds skew greatest c)
    (f : EndsFair c) where
  here : In s c.servers
  here = In-got c.servers k s at

  module _ (e : ServerEvent) (n : ServerNote) (new : Leading) (ms : List (Peer × Msg)) (t : Server) where
    abbrev x : Stepped
    x = waits n new ms t

    -- rows are locked, others are asked, and what is new is the votes of one transaction
    pub record OnlyWaits : Type 0 where
      pub rows : AreRelocked s.rows t.rows
      pub given : t.given ≡ s.given
      pub leading : t.leading ≡ s.leading
      pub ending : t.ending ≡ s.ending
      pub parcels : parcels_of (without_arrived k e c.in_flight) ≡ parcels_of c.in_flight
      pub none : parcels_of (in_flight_from k ms) ≡ []
      pub asks : (m : Peer × Msg) → In m ms → IsAsk m
      pub votes : VotesFair c new.leader.session new.leader.votes
      pub session : (o : Leading) → In o s.leading → new.leader.txn ≡ o.leader.txn → new.leader.session ≡ o.leader.session

    pub waits_fair : OnlyWaits → EndsFair (after_step k e x c)
    waits_fair w =
        let later : RowsLater c (after_step k e x c) =
        stepped_later k c (after_step k e x c) s x.server at h.places refl
        (parcels_then k c (without_arrived k e c.in_flight) ms w.parcels w.none) w.given w.rows in
        event_fair skew greatest k c s at h f e x (record {
          later = later;
          leading = λ l i. elim (in_with_leading new t.leading l i) as
              (λ _. VotesFair (after_step k e x c) l.leader.session l.leader.votes) [
                | inl same ↦ subst (λ (z : Leading). VotesFair (after_step k e x c) z.leader.session z.leader.votes) (sym same)
                    (λ number end now v. event_still skew greatest k c s at h f e x later new.leader.session number end now
                    (w.votes number end now v))
                | inr j ↦ event_leading skew greatest k c s at h f e x later l (subst (In l) w.leading j.0)
              ];
          before = λ l o i j its. elim (in_with_leading new t.leading l i) as (λ _. l.leader.session ≡ o.leader.session) [
            | inl same ↦ ap (λ (z : Leading). z.leader.session) same
                ∙ w.session o j (ap (λ (z : Leading). z.leader.txn) (sym same) ∙ its)
            | inr p ↦ event_one skew greatest k c s at h f e x l o (subst (In l) w.leading p.0) j its
          ];
          ending = λ y i. event_ending skew greatest k c s at h f e x later y (subst (In y) w.ending i);
          votes = λ to m i. absurd (w.asks (OfServer to, msg.Peer (peer.Vote m)) i);
          answers = λ to z i. absurd (w.asks (OfSession to, msg.Answer (answer.Led z)) i);
        })

  -- ## A question

  module _ (splits : CommitSplits) (within : greatest ≤ s.last + skew) (by : Session) (m : ToLead)
      (comes : IsThere k (event.FromClient by (Lead m)) c) where
    abbrev asking : ServerEvent
    asking = event.FromClient by (Lead m)

    up : (ends_in c by).up ≡ Lead m ∷ []
    up = up_asked skew greatest c s here h by k m comes

    asked : IsToBeLed (c.lines by).client.led m
    asked = to_lead greatest (world_of s c) by m up (h.parts s here).0

    -- no transaction of its number is led before, so it is of the session that asks
    begun_own : session_of_txn c.servers (asker_of asking) (txn_of s) ≡ Some by
    begun_own = of_led (led_in c.servers (txn_of s)) refl
      where
        its : led_in c.servers (txn_of s) ≡ leading_of (txn_of s) s.leading
        its = ap (λ o. leading_of (txn_of s) (leading_at o)) (ap (slice_get c.servers) (h.places.numbered k s at) ∙ at)

        of_led : (o : Option Leading) → led_in c.servers (txn_of s) ≡ o → session_led o (Some by) ≡ Some by
        of_led None is = refl
        of_led (Some o) is =
            let q = found (λ (z : Leading). same_txn z.leader.txn (txn_of s)) s.leading o (sym its ∙ is) in
            let few = (h.led.leading s here o q.0).begun in
            let count : o.leader.txn.count ≡ s.txns + 1 = ap (λ (u : TxnNo). u.count) (txn_is o.leader.txn (txn_of s) q.1) in
            absurd (omega (arith, few, count))

    module _ (mode : Mode2) where
      abbrev r : Round
      r = round_of mode by m s

      abbrev begins : Leading
      begins = record { leader = leader_with mode (txn_of s) by m r.votes; at = r.at }

      begun_votes : VotesFair c by r.votes
      begun_votes number end now i =
          elim (rounds_said s (txn_of s) 0 by (parts_in mode m) (first_round s) (λ p. refl) (vote.Ended number end now) i) as
          (λ _. WasEnded c by number end now) [
            | inl z ↦ absurd z
            | inr p ↦
                vote_fair skew greatest k c s at h by asked.led
                (up ∙ ap (λ (x : ToLead). let xs : List ClientMsg = Lead x ∷ [] in xs) asked.told)
                asked.is within mode p.0 (subst (λ (x : ToLead). In p.0 (parts_in mode x)) asked.told p.1.0) number end now p.1.1
          ]

      begun_waits : OnlyWaits asking (note.Prepares (txn_of s)) begins r.send r.server
      begun_waits =
          let left = questions.left skew greatest k c s at h splits by m comes mode in
          record {
            rows = rounds_relock (txn_of s) 0 by (parts_in mode m) (first_round s) s.rows (relocked_not s.rows);
            given = ap (λ (z : Server). z.given) left;
            leading = ap (λ (z : Server). z.leading) left;
            ending = ap (λ (z : Server). z.ending) left;
            parcels = refl;
            none = (asks skew greatest k c s at h splits by m comes mode).1.0;
            asks = rounds_asks (txn_of s) 0 by (parts_in mode m) (first_round s) (λ x z. absurd z);
            votes = begun_votes;
            session = λ o i same.
                let few = (h.led.leading s here o i).begun in
                let count : s.txns + 1 ≡ o.leader.txn.count = ap (λ (u : TxnNo). u.count) same in
                absurd (omega (arith, few, count));
          }

      begun_fair : BeginsIn m s mode → IsRightStep k asking c (goes_on (note.Prepares (txn_of s)) begins (path_for mode m.op s) r.send r.server)
      begun_fair b =
          goes_on_fair skew greatest k c s at asking (λ items replied. refl) splits (note.Prepares (txn_of s)) begins (path_for mode m.op s)
          r.send r.server (λ txn number end now e. absurd (cc e)) begun_own (questions.begins skew greatest k c s at h splits by m comes mode b).0
          (waits_fair asking (note.Prepares (txn_of s)) begins r.send r.server begun_waits)

    -- it is put off, and some are asked for more
    abbrev puts_off : Why → Server → List (Peer × Msg) → Stepped
    puts_off w t ms = record {
      server = t;
      out = record { note = note.Refuses w; send = to_session by (answer.Led (led.Again w)) ∷ ms; admitted = [] };
    }

    put_off_fair : (w : Why) (t : Server) (ms : List (Peer × Msg)) → t.rows ≡ s.rows → t.given ≡ s.given → t.leading ≡ s.leading
        → t.ending ≡ s.ending → parcels_of (in_flight_from k ms) ≡ [] → ((x : Peer × Msg) → In x ms → IsAsk x)
        → IsRightStep k asking c (puts_off w t ms)
    put_off_fair w t ms rows given leading ending none asks =
        let x : Stepped = puts_off w t ms in
        let later : RowsLater c (after_step k asking x c) =
        stepped_later k c (after_step k asking x c) s t at h.places refl (parcels_then k c c.in_flight x.out.send refl none) given
        (subst (AreRelocked s.rows) (sym rows) (relocked_not s.rows)) in (
          event_fair skew greatest k c s at h f asking x (record {
            later = later;
            leading = λ l i. event_leading skew greatest k c s at h f asking x later l (subst (In l) leading i);
            before = λ l o i. event_one skew greatest k c s at h f asking x l o (subst (In l) leading i);
            ending = λ y i. event_ending skew greatest k c s at h f asking x later y (subst (In y) ending i);
            votes = λ to v i. elim i as (λ _. (l : Leading) → led_in (after_step k asking x c).servers v.txn ≡ Some l
                → (number : LeaseNo) (end now : ℕ) → v.vote ≡ vote.Ended number end now
                → WasEnded (after_step k asking x c) l.leader.session number end now) [
                  | inl e ↦ absurd (answer_votes by (answer.Led (led.Again w)) to v (inl e))
                  | inr j ↦ absurd (asks (OfServer to, msg.Peer (peer.Vote v)) j)
                ];
            answers = λ to z i number end now ends. elim i as (λ _. WasEnded (after_step k asking x c) to number end now) [
              | inl e ↦
                  let word : msg.Answer (answer.Led z) ≡ msg.Answer (answer.Led (led.Again w)) = ap (λ (p : Peer × Msg). p.1) e in
                  let same : z ≡ led.Again w = cc in
                  let wrong : led.Ended number end now ≡ led.Again w = sym ends ∙ same in
                  absurd (cc wrong)
              | inr j ↦ absurd (asks (OfSession to, msg.Answer (answer.Led z)) j)
            ];
          }),
          noted_none c asking (after_step k asking x c) x.out.note (λ txn number end now e. absurd (cc e)),
        )

    refused : (w : Why) → IsRightStep k asking c (refuses by w s)
    refused w = put_off_fair w s [] refl refl refl refl refl (λ x z. absurd z)

    by_end : (x : Stepped) → LeadEnds by m s x → IsRightStep k asking c x
    by_end x (unled l) =
        let wrong : true ≡ false = sym (questions.led_there skew greatest k c s at h splits by m comes) ∙ l in absurd (cc wrong)
    by_end x (put_off w l o) = refused w
    by_end x (wanted top dir l o) =
        put_off_fair (why.Wanted top) (with_asking top s) (asks_up top dir s) refl refl refl refl (up_hands_nothing k top dir s)
        (up_asks top dir s)
    by_end x (kept file txn l o) = refused (why.Frozen file txn)
    by_end x (begun mode l b) = begun_fair mode b

    pub lead_fair : IsRightStep k asking c (lead_step by m s)
    lead_fair = by_end (lead_step by m s) (lead_ends by m s)

  -- ## A vote

  module _ (splits : CommitSplits) (within : greatest ≤ s.last + skew) (from : ℕ) (m : VotedMsg)
      (comes : IsThere k (event.FromPeer from (peer.Vote m)) c) where
    abbrev voting : ServerEvent
    voting = event.FromPeer from (peer.Vote m)

    abbrev g : InFlight
    g = record { from = from; to = k; message = peer.Vote m }

    abbrev a : IsAwaited s m
    a = q skew greatest k c s at h splits from m comes

    abbrev l : Leading
    l = a.leading

    leads : IsLeading c.lines s h.led.parts l
    leads = h.led.leading s here l a.among

    its_led : led_in c.servers m.txn ≡ Some l
    its_led =
        let place : k ≡ m.txn.server = (vote_here_is k from c s at h.led m comes).leader in
        ap (λ o. leading_of m.txn (leading_at o)) (was_at c.servers k s s at m.txn.server (ap (λ j. j == k) (sym place) ∙ itself k)) ∙ a.led

    -- the leader's table has it for its session
    voted_own : session_of_txn c.servers None l.leader.txn ≡ Some l.leader.session
    voted_own =
        let same : l.leader.txn ≡ m.txn =
        txn_is l.leader.txn m.txn (found (λ (z : Leading). same_txn z.leader.txn m.txn) s.leading l a.led).1 in
        ap (session_of_txn c.servers None) same ∙ ap (λ o. session_led o None) its_led

    -- it waits with these votes
    only_waits : (n : ServerNote) (votes : Votes) (places : List ℕ) (ms : List (Peer × Msg)) (t : Server) → AreRelocked s.rows t.rows
        → t.given ≡ s.given → t.leading ≡ s.leading → t.ending ≡ s.ending → parcels_of (in_flight_from k ms) ≡ []
        → ((x : Peer × Msg) → In x ms → IsAsk x) → VotesFair c l.leader.session votes
        → EndsFair (after_step k voting (waits n (record { leader = record l.leader { votes = votes }; at = places }) ms t) c)
    only_waits n votes places ms t rows given leading ending none asks fair =
        waits_fair voting n (record { leader = record l.leader { votes = votes }; at = places }) ms t (record {
          rows = rows;
          given = given;
          leading = leading;
          ending = ending;
          parcels = word_taken (is_between from k) c.in_flight g comes refl;
          none = none;
          asks = asks;
          votes = fair;
          session = λ o i same. event_one skew greatest k c s at h f voting (waits n l ms t) l o a.among i same;
        })

    old_votes : VotesFair c l.leader.session l.leader.votes
    old_votes = f.counted s here l a.among

    one_more : (v : Vote) → ((number : LeaseNo) (end now : ℕ) → v ≡ vote.Ended number end now → WasEnded c l.leader.session number end now)
        → VotesFair c l.leader.session (votes_after l.leader.votes m.number v)
    one_more v right number end now i =
        elim (votes_in l.leader.votes m.number v (Some (vote.Ended number end now)) i) as
        (λ _. WasEnded c l.leader.session number end now) [
          | inl e ↦ let same : v ≡ vote.Ended number end now = cc in right number end now same
          | inr j ↦ old_votes number end now j
        ]

    counted : is_moved m.vote ≡ false → IsRightStep k voting c (counts m.number m.vote l s)
    counted stays =
        goes_on_fair skew greatest k c s at voting (λ items replied. refl) splits (note.Waits l.leader.txn)
        (with_vote m.number m.vote l) (path_for l.leader.mode l.leader.op s) [] s
        (λ txn number end now e. absurd (cc e)) voted_own (counted_waits skew greatest k c s at h splits from m comes stays).0
        (only_waits (note.Waits l.leader.txn) (votes_after l.leader.votes m.number m.vote) l.at [] s (relocked_not s.rows)
        refl refl refl refl
        (λ x z. absurd z)
        (one_more m.vote (λ number end now v.
        f.coming g (found (is_between from k) c.in_flight g comes).0 m refl number end now v l its_led)))

    module _ (p : Part) (part : slice_get l.leader.parts m.number ≡ Some p) (moved : is_moved m.vote ≡ true) where
      sought : (to : ℕ) → IsRightStep k voting c (seeks m.number to p l s)
      sought to = (
        only_waits (note.Seeks l.leader.txn to) l.leader.votes (slice_set l.at m.number to)
            (to_server to (ask_for l.leader.txn m.number l.leader.session p) ∷ []) s (relocked_not s.rows) refl refl refl refl
            (one_ask l.leader.txn m.number l.leader.session p to) old_votes,
        noted_none c voting (after_step k voting (seeks m.number to p l s) c) (note.Seeks l.leader.txn to)
            (λ txn number end now e. absurd (cc e)),
      )

      abbrev own_vote : Vote
      own_vote = vote_here s l.leader.session p

      own_right : (number : LeaseNo) (end now : ℕ) → own_vote ≡ vote.Ended number end now → WasEnded c l.leader.session number end now
      own_right =
          vote_fair skew greatest k c s at h l.leader.session leads.led
          (up_led skew greatest c s here h l.leader.session s here l a.among refl leads.led leads.client.led) leads.client.led within
          l.leader.mode p (subst (In p) leads.leader.parts (In-got l.leader.parts m.number p part))

      own : is_mine s p.file ≡ true → IsRightStep k voting c (counts_own m.number p own_vote l s)
      own mine =
          goes_on_fair skew greatest k c s at voting (λ items replied. refl) splits (note.Waits l.leader.txn)
          (with_vote m.number own_vote (asked_at m.number s.me l)) (path_for l.leader.mode l.leader.op s) (recalls_for own_vote s p)
          (after_own_vote l.leader.txn p own_vote s)
          (λ txn number end now e. absurd (cc e)) voted_own (own_waits skew greatest k c s at h splits from m comes p part moved mine).0
          (only_waits (note.Waits l.leader.txn) (votes_after l.leader.votes m.number own_vote) (slice_set l.at m.number s.me)
          (recalls_for own_vote s p) (after_own_vote l.leader.txn p own_vote s) (voted_so own_vote l.leader.txn p.uses s.rows) refl refl
          refl (recalls_hand_nothing k own_vote s p) (recalls_ask own_vote s p)
          (one_more own_vote own_right))

      home : (b : Bool) → is_mine s p.file ≡ b → IsRightStep k voting c
          (cond b (counts_own m.number p own_vote l s) (seeks m.number (server_of s.map p.file) p l s))
      home true mine = own mine
      home false off = sought (server_of s.map p.file)

      sent : (to : ℕ) (b : Bool) → IsRightStep k voting c (cond b (comes_home m.number p l s) (seeks m.number to p l s))
      sent to true = home (is_mine s p.file) refl
      sent to false = sought to

    by_vote : (v : Vote) → m.vote ≡ v → IsRightStep k voting c (voted m.number v l s)
    by_vote vote.Yes is = subst (λ v. IsRightStep k voting c (counts m.number v l s)) is (counted (ap is_moved is))
    by_vote (vote.Ended n u w) is = subst (λ v. IsRightStep k voting c (counts m.number v l s)) is (counted (ap is_moved is))
    by_vote (vote.PathsOut n) is = subst (λ v. IsRightStep k voting c (counts m.number v l s)) is (counted (ap is_moved is))
    by_vote (vote.Moved prefix to) is =
        subst (λ o. IsRightStep k voting c (sent_on m.number to o l s)) (sym a.part) (sent a.wanted a.part (ap is_moved is) to (to == s.me))

    pub voted_fair : IsRightStep k voting c (vote_step m s)
    voted_fair = subst (IsRightStep k voting c) (sym (vote_is k from c s at h.led m a)) (by_vote m.vote refl)
