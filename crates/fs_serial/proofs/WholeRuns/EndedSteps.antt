-- What a server tells of leases that had ended is right after its step, where what it adds is.
use Rattle.std.proofs.Common.{◌≡◌, ◌⊎◌, ◌==◌, ℕ, Bool, true, false, List, [], ◌∷◌, ◌++◌, cond, refl, sym, ap, ap₂, ◌∙◌, subst, inl, inr}
use Rattle.std.specs.Prelude.{Some, slice_get, slice_set}
use Rattle.fs_ident.specs.In.{In}
use Rattle.fs_ident.specs.declared.actor.LeaseNo.{LeaseNo}
use Rattle.fs_ident.specs.declared.actor.Peer.{Peer}
use Rattle.fs_ident.specs.declared.actor.Peer.TheVariants.{Client as OfSession, Server as OfServer}
use Rattle.fs_ident.specs.declared.actor.Session.{Session}
use Rattle.fs_ident.proofs.Passing.{found}
use Rattle.fs_ident.proofs.Same.{one_session}
use Rattle.fs_ident.proofs.Standing.{In-append, In-got}
use Rattle.fs_field.specs.Table.{same_txn}
use Rattle.fs_field.specs.declared.vote.Vote.TheVariants as vote
use Rattle.fs_record.specs.declared.led_end.LedEnd.{LedEnd}
use Rattle.fs_record.specs.declared.led_end.LedEnd.TheVariants as led
use Rattle.fs_msg.specs.declared.answer.Answer.{Answer}
use Rattle.fs_msg.specs.declared.answer.Answer.TheVariants as answer
use Rattle.fs_msg.specs.declared.item.Item.{Item}
use Rattle.fs_msg.specs.declared.msg.Msg.{Msg}
use Rattle.fs_msg.specs.declared.msg.Msg.TheVariants as msg
use Rattle.fs_msg.specs.declared.peer_msg.PeerMsg.TheVariants as peer
use Rattle.fs_msg.specs.declared.voted.Voted.{Voted as VotedMsg}
use Rattle.fs_client.specs.declared.state.Client.{Client}
use Rattle.fs_server.specs.Server.{Stepped}
use Rattle.fs_server.specs.declared.event.ServerEvent.{ServerEvent}
use Rattle.fs_server.specs.declared.event.ServerEvent.TheVariants as event
use Rattle.fs_server.specs.declared.state.Server.{Server}
use Rattle.fs_txn.specs.Leading.{leading_of}
use Rattle.fs_txn.specs.Stages.{Key, Told}
use Rattle.fs_txn.specs.Stages.Word.{Voted}
use Rattle.fs_txn.specs.Votes.{Votes}
use Rattle.fs_txn.specs.declared.leading.Ending.{Ending}
use Rattle.fs_txn.specs.declared.leading.Leading.{Leading}
use Rattle.fs_txn.proofs.Keys.{txn_is}
use Rattle.fs_serial.specs.Cluster.{Cluster, InFlight, Lines, after_step, in_flight_from, is_between, is_with, replies_after}
use Rattle.fs_serial.specs.Cluster.{with_answer, with_sent, without_arrived, without_first, without_question}
use Rattle.fs_serial.specs.EndedLeases.{EndsFair, WasEnded}
use Rattle.fs_serial.specs.Leading.{LedHolds}
use Rattle.fs_serial.specs.Seen.{ClusterHolds}
use Rattle.fs_serial.specs.Words.{desks_of, ended_in, key_of, leading_at, led_in, told_in, told_with}
use Rattle.fs_serial.proofs.Lists.SetAt.{In_without}
use Rattle.fs_serial.proofs.Replies.Knowing.{In-filter_map}
use Rattle.fs_serial.proofs.Transactions.AwaitedWords.{IsAskedBy, asked_by}
use Rattle.fs_serial.proofs.Transactions.Desks.{each_after, is_at, is_still, voted_word, was_at}
use Rattle.fs_serial.proofs.Transactions.OthersKeep.{sent_client, taken_client}
use Rattle.fs_serial.proofs.WholeRuns.EndedStay.{RowsLater, ended_stays}

-- ## Messages

-- an answer on its way was so, or is sent
sent_down : (k : ℕ) (ms : List (Peer × Msg)) (lines : Session → Lines) (y : Session) (j : ℕ) (a : Answer)
    → In (j, a) (with_sent k ms lines y).down → In (j, a) (lines y).down ⊎ In (OfSession y, msg.Answer a) ms
sent_down k [] lines y j a i = inl i
sent_down k ((OfSession to, msg.Answer b) ∷ rest) lines y j a i =
    elim (sent_down k rest (with_answer k to b lines) y j a i) as
    (λ _. In (j, a) (lines y).down ⊎ In (OfSession y, msg.Answer a) ((OfSession to, msg.Answer b) ∷ rest)) [
      | inr q ↦ inr (inr q)
      | inl q ↦ here (to.0 == y.0) refl q
    ]
  where
    here : (t : Bool) → (to.0 == y.0) ≡ t
        → In (j, a) (let l : Lines = cond t (record (lines y) { down = (lines y).down ++ (k, b) ∷ [] }) (lines y) in l).down
        → In (j, a) (lines y).down ⊎ In (OfSession y, msg.Answer a) ((OfSession to, msg.Answer b) ∷ rest)
    here true e q = elim (In-append (j, a) (lines y).down ((k, b) ∷ []) q) as
        (λ _. In (j, a) (lines y).down ⊎ In (OfSession y, msg.Answer a) ((OfSession to, msg.Answer b) ∷ rest)) [
          | inl p ↦ inl p
          | inr (inl p) ↦
              let its : to ≡ y = one_session to y e in
              let same : a ≡ b = ap (λ (n : ℕ × Answer). n.1) p in
              inr (inl (ap₂ (λ (z : Session) (x : Answer). let m : Peer × Msg = (OfSession z, msg.Answer x) in m) (sym its) same))
          | inr (inr z) ↦ absurd z
        ]
    here false e q = inl q
sent_down k (m ∷ rest) lines y j a i = elim (sent_down k rest lines y j a i) as
    (λ _. In (j, a) (lines y).down ⊎ In (OfSession y, msg.Answer a) (m ∷ rest)) [ inl q ↦ inl q | inr q ↦ inr (inr q) ]

-- what is on its way to a server from this one was sent
sent_flight : (k : ℕ) (ms : List (Peer × Msg)) (g : InFlight) → In g (in_flight_from k ms) → In (OfServer g.to, msg.Peer g.message) ms
sent_flight k [] g i = absurd i
sent_flight k ((OfServer to, msg.Peer m) ∷ rest) g (inl e) =
    inl (ap (λ (z : InFlight). let x : Peer × Msg = (OfServer z.to, msg.Peer z.message) in x) e)
sent_flight k ((OfServer to, msg.Peer m) ∷ rest) g (inr i) = inr (sent_flight k rest g i)
sent_flight k (m ∷ rest) g i = inr (sent_flight k rest g i)

-- the answers on their way stay while a question is taken
pub taken_down : (k : ℕ) (e : ServerEvent) (lines : Session → Lines) (y : Session) → (without_question k e lines y).down ≡ (lines y).down
taken_down k (event.FromClient by m) lines y =
    let l : Lines = record (lines by) { up = without_first (is_with k) (lines by).up } in
    elim (by.0 == y.0) as (λ b. (by.0 == y.0) ≡ b → (cond b l (lines y)).down ≡ (lines y).down) [
      | true ↦ λ t. ap (λ z. (lines z).down) (one_session by y t)
      | false ↦ λ t. refl
    ] refl
taken_down k e lines y = refl

-- ## A vote that comes

-- it has its leader
pub record HasLeader (servers : List Server) (m : VotedMsg) : Type 0 where
  pub leading : Leading
  pub is : led_in servers m.txn ≡ Some leading

pub vote_led : (c : Cluster) → LedHolds c → (f : InFlight) → In f c.in_flight → (m : VotedMsg) → f.message ≡ peer.Vote m
    → HasLeader c.servers m
vote_led c held f i m e =
    let key : Key = key_of m.txn m.number in
    let told : Told = told_with f.from f.to (key, Voted m.vote) in
    let is : told_in f ≡ Some told = ap (λ x. told_in (record { from = f.from; to = f.to; message = x })) e in
    let q = voted_word (desks_of held.parts c) key told refl held.stages (In-filter_map told_in f told c.in_flight i is) m.vote refl in
    let asked : IsAskedBy m.number (led_in c.servers m.txn) q.at =
    asked_by m.number q.at (led_in c.servers m.txn) (ended_in c.servers m.txn) q.stage in
    record { leading = asked.leading; is = asked.is }

-- ## The step

abbrev pub VotesFair : Cluster → Session → Votes → Type 0
VotesFair c by votes = (number : LeaseNo) (end now : ℕ) → In (Some (vote.Ended number end now)) votes → WasEnded c by number end now

abbrev pub EndFair : Cluster → Session → LedEnd → Type 0
EndFair c by e = (number : LeaseNo) (end now : ℕ) → e ≡ led.Ended number end now → WasEnded c by number end now

module _ (skew greatest k : ℕ) (c : Cluster) (s : Server) (at : slice_get c.servers k ≡ Some s) (h : ClusterHolds skew greatest c)
    (f : EndsFair c) (left : List InFlight) (lines : Session → Lines) (t : Server) (ms : List (Peer × Msg)) (journal : List Item)
    (replied : Session → List Item) where
  -- all after it, where this is left on its way
  abbrev pub stepped : Cluster
  stepped = record {
    servers = slice_set c.servers k t;
    in_flight = left ++ in_flight_from k ms;
    journal = journal;
    replied = replied;
    lines = with_sent k ms lines;
  }

  pub record SaysFair : Type 0 where
    pub later : RowsLater c stepped
    pub among : (z : InFlight) → In z left → In z c.in_flight
    pub clients : (y : Session) → (lines y).client ≡ (c.lines y).client
    pub heard : (y : Session) → (lines y).down ≡ (c.lines y).down
    pub leading : (l : Leading) → In l t.leading → VotesFair stepped l.leader.session l.leader.votes
    -- each transaction that was led before is of the same session
    pub before : (l o : Leading) → In l t.leading → In o s.leading → l.leader.txn ≡ o.leader.txn → l.leader.session ≡ o.leader.session
    pub ending : (x : Ending) → In x t.ending → EndFair stepped x.session x.end
    pub votes : (to : ℕ) (m : VotedMsg) → In (OfServer to, msg.Peer (peer.Vote m)) ms → (l : Leading)
        → led_in stepped.servers m.txn ≡ Some l → (number : LeaseNo) (end now : ℕ) → m.vote ≡ vote.Ended number end now
        → WasEnded stepped l.leader.session number end now
    pub answers : (to : Session) (e : LedEnd) → In (OfSession to, msg.Answer (answer.Led e)) ms → EndFair stepped to e

  same_led : ((y : Session) → (lines y).client ≡ (c.lines y).client) → (y : Session)
      → (stepped.lines y).client.led ≡ (c.lines y).client.led
  same_led clients y = ap (λ (z : Client). z.led) (sent_client k ms lines y ∙ clients y)

  -- what was right is right
  pub still : RowsLater c stepped → ((y : Session) → (lines y).client ≡ (c.lines y).client) → (by : Session)
      (number : LeaseNo) (end now : ℕ) → WasEnded c by number end now → WasEnded stepped by number end now
  still later clients by number end now = ended_stays c stepped by number end now later (same_led clients by)

  -- what stays of its tables
  module _ (later : RowsLater c stepped) (clients : (y : Session) → (lines y).client ≡ (c.lines y).client) where
    pub old_leading : (l : Leading) → In l s.leading → VotesFair stepped l.leader.session l.leader.votes
    old_leading l i number end now v =
        still later clients l.leader.session number end now (f.counted s (In-got c.servers k s at) l i number end now v)

    pub old_ending : (x : Ending) → In x s.ending → EndFair stepped x.session x.end
    old_ending x i number end now e = still later clients x.session number end now (f.kept s (In-got c.servers k s at) x i number end now e)

  pub one_leading : (l o : Leading) → In l s.leading → In o s.leading → l.leader.txn ≡ o.leader.txn → l.leader.session ≡ o.leader.session
  one_leading l o i j e =
      let here : In s c.servers = In-got c.servers k s at in
      let both : Some l ≡ Some o =
      sym (h.led.leading s here l i).one ∙ ap (λ u. leading_of u s.leading) e ∙ (h.led.leading s here o j).one in
      let same : l ≡ o = cc in
      ap (λ (z : Leading). z.leader.session) same

  module _ (q : SaysFair) where
    old : (by : Session) (number : LeaseNo) (end now : ℕ) → WasEnded c by number end now → WasEnded stepped by number end now
    old = still q.later q.clients

    -- a vote that was on its way is one for the same session
    same_session : (m : VotedMsg) (o l : Leading) → led_in c.servers m.txn ≡ Some o → led_in stepped.servers m.txn ≡ Some l
        → o.leader.session ≡ l.leader.session
    same_session m o l was is = by_server (m.txn.server == k) refl
      where
        by_server : (b : Bool) → (m.txn.server == k) ≡ b → o.leader.session ≡ l.leader.session
        by_server false e =
            let both : Some o ≡ Some l =
            sym was ∙ sym (ap (λ x. leading_of m.txn (leading_at x)) (is_still c.servers k s t at m.txn.server e)) ∙ is in
            let same : o ≡ l = cc in
            ap (λ (z : Leading). z.leader.session) same
        by_server true e =
            let test = λ (z : Leading). same_txn z.leader.txn m.txn in
            let here : leading_of m.txn s.leading ≡ Some o =
            sym (ap (λ x. leading_of m.txn (leading_at x)) (was_at c.servers k s t at m.txn.server e)) ∙ was in
            let then : leading_of m.txn t.leading ≡ Some l =
            sym (ap (λ x. leading_of m.txn (leading_at x)) (is_at c.servers k s t at m.txn.server e)) ∙ is in
            let a = found test s.leading o here in
            let b = found test t.leading l then in
            sym (q.before l o b.0 a.0 (txn_is l.leader.txn m.txn b.1 ∙ sym (txn_is o.leader.txn m.txn a.1)))

    came : (g : InFlight) → In g left → (m : VotedMsg) → g.message ≡ peer.Vote m → (number : LeaseNo) (end now : ℕ)
        → m.vote ≡ vote.Ended number end now → (l : Leading) → led_in stepped.servers m.txn ≡ Some l
        → WasEnded stepped l.leader.session number end now
    came g i m e number end now v l is =
        let there : In g c.in_flight = q.among g i in
        let o : HasLeader c.servers m = vote_led c h.led g there m e in
        subst (λ z. WasEnded stepped z number end now) (same_session m o.leading l o.is is)
        (old (o.leading).leader.session number end now (f.coming g there m e number end now v o.leading o.is))

    pub step_fair : EndsFair stepped
    step_fair = record {
      counted = each_after (λ z. (l : Leading) → In l z.leading → VotesFair stepped l.leader.session l.leader.votes) c.servers k t
          (λ z i l j number end now v. old l.leader.session number end now (f.counted z i l j number end now v)) q.leading;
      coming = λ g i m e number end now v l is. elim (In-append g left (in_flight_from k ms) i) as
          (λ _. WasEnded stepped l.leader.session number end now) [
            | inl j ↦ came g j m e number end now v l is
            | inr j ↦ q.votes g.to m (subst (λ x. In (OfServer g.to, msg.Peer x) ms) e (sent_flight k ms g j)) l is number end now v
          ];
      kept = each_after (λ z. (x : Ending) → In x z.ending → EndFair stepped x.session x.end) c.servers k t
          (λ z i x j number end now e. old x.session number end now (f.kept z i x j number end now e)) q.ending;
      told = λ by j number end now i. elim (sent_down k ms lines by j (answer.Led (led.Ended number end now)) i) as
          (λ _. WasEnded stepped by number end now) [
            | inl p ↦ old by number end now (f.told by j number end now
                (subst (λ (as_ : List (ℕ × Answer)). In (j, answer.Led (led.Ended number end now)) as_) (q.heard by) p))
            | inr p ↦ q.answers by (led.Ended number end now) p number end now refl
          ];
    }

-- ## An event

pub arrived_among : (k : ℕ) (e : ServerEvent) (in_flight : List InFlight) (z : InFlight) → In z (without_arrived k e in_flight) → In z in_flight
arrived_among k (event.FromPeer from m) in_flight z i = In_without (is_between from k) in_flight z i
arrived_among k e in_flight z i = i

module _ (skew greatest k : ℕ) (c : Cluster) (s : Server) (at : slice_get c.servers k ≡ Some s) (h : ClusterHolds skew greatest c)
    (f : EndsFair c) (e : ServerEvent) (x : Stepped) where
  abbrev pub then : Cluster
  then = after_step k e x c

  abbrev left : List InFlight
  left = without_arrived k e c.in_flight

  abbrev lines : Session → Lines
  lines = without_question k e c.lines

  abbrev journal : List Item
  journal = c.journal ++ x.out.admitted

  abbrev replied : Session → List Item
  replied = replies_after e x.out.admitted c.replied

  pub event_still : RowsLater c then → (by : Session) (number : LeaseNo) (end now : ℕ) → WasEnded c by number end now
      → WasEnded then by number end now
  event_still later = still skew greatest k c s at h f left lines x.server x.out.send journal replied later (taken_client k e c.lines)

  pub event_leading : RowsLater c then → (l : Leading) → In l s.leading → VotesFair then l.leader.session l.leader.votes
  event_leading later = old_leading skew greatest k c s at h f left lines x.server x.out.send journal replied later
      (taken_client k e c.lines)

  pub event_ending : RowsLater c then → (y : Ending) → In y s.ending → EndFair then y.session y.end
  event_ending later = old_ending skew greatest k c s at h f left lines x.server x.out.send journal replied later (taken_client k e c.lines)

  pub event_one : (l o : Leading) → In l s.leading → In o s.leading → l.leader.txn ≡ o.leader.txn → l.leader.session ≡ o.leader.session
  event_one = one_leading skew greatest k c s at h f left lines x.server x.out.send journal replied

  -- what the step adds is right
  pub record AddsFair : Type 0 where
    pub later : RowsLater c then
    pub leading : (l : Leading) → In l x.server.leading → VotesFair then l.leader.session l.leader.votes
    pub before : (l o : Leading) → In l x.server.leading → In o s.leading → l.leader.txn ≡ o.leader.txn
        → l.leader.session ≡ o.leader.session
    pub ending : (y : Ending) → In y x.server.ending → EndFair then y.session y.end
    pub votes : (to : ℕ) (m : VotedMsg) → In (OfServer to, msg.Peer (peer.Vote m)) x.out.send → (l : Leading)
        → led_in then.servers m.txn ≡ Some l → (number : LeaseNo) (end now : ℕ) → m.vote ≡ vote.Ended number end now
        → WasEnded then l.leader.session number end now
    pub answers : (to : Session) (z : LedEnd) → In (OfSession to, msg.Answer (answer.Led z)) x.out.send → EndFair then to z

  pub event_fair : AddsFair → EndsFair then
  event_fair q = step_fair skew greatest k c s at h f left lines x.server x.out.send journal replied (record {
    later = q.later;
    among = arrived_among k e c.in_flight;
    clients = taken_client k e c.lines;
    heard = taken_down k e c.lines;
    leading = q.leading;
    before = q.before;
    ending = q.ending;
    votes = q.votes;
    answers = q.answers;
  })
