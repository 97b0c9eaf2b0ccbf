-- Everything is at its place after a decision, and after a part carries it out.
use Rattle.std.proofs.Common.{◌≡◌, ◌<◌, ℕ, Bool, List, [], ◌∷◌, length, refl, ap, ◌∙◌, subst, inl, inr}
use Rattle.std.specs.Prelude.{Some, slice_get, Option}
use Rattle.std.specs.List.{filter}
use Rattle.fs_ident.specs.In.{In}
use Rattle.fs_ident.specs.declared.actor.Session.{Session}
use Rattle.fs_ident.specs.declared.actor.TxnNo.{TxnNo}
use Rattle.fs_ident.proofs.Passing.{found}
use Rattle.fs_ident.proofs.Standing.{In-filter, In-got}
use Rattle.fs_msg.specs.declared.decide.Decide.{Decide as ToDecide}
use Rattle.fs_msg.specs.declared.answer.Answer.TheVariants as answer
use Rattle.fs_msg.specs.declared.peer_msg.PeerMsg.TheVariants as peer
use Rattle.fs_record.specs.Applied.{is_undoable, records_after_all, takes_away}
use Rattle.fs_record.specs.declared.led_end.LedEnd.{LedEnd}
use Rattle.fs_server.specs.Concludes.{concludes, ends_now, keeps_for, tells}
use Rattle.fs_server.specs.Follows.{after_decision, applies, to_server}
use Rattle.fs_server.specs.Server.{Stepped, is_mine}
use Rattle.fs_server.specs.declared.event.ServerEvent.TheVariants.{FromPeer}
use Rattle.fs_server.specs.declared.state.Server.{Server}
use Rattle.fs_txn.specs.Deciding.{decision, told_effects}
use Rattle.fs_txn.specs.Leading.{elsewhere, end_of_decision, own_effects, own_parts}
use Rattle.fs_txn.specs.Ready.{is_awaited, without_prepared}
use Rattle.fs_txn.specs.Stages.{Told, is_between, word_to}
use Rattle.fs_txn.specs.Stages.Word.{Decide}
use Rattle.fs_txn.specs.declared.decision.Decision.{Decision}
use Rattle.fs_txn.specs.declared.leading.Leading.{Leading}
use Rattle.fs_serial.specs.Cluster.{Cluster, InFlight, IsThere, after_step, with_items, without_arrived}
use Rattle.fs_serial.specs.Cluster as cluster
use Rattle.fs_serial.specs.Conclusions.{after_concluded}
use Rattle.fs_serial.specs.Leading.{LedHolds}
use Rattle.fs_serial.specs.Places.{PlacesHold}
use Rattle.fs_serial.specs.Words.{key_of, telling_of, told_with}
use Rattle.fs_serial.proofs.DecidedEffects.ToldParts.{told_there}
use Rattle.fs_serial.proofs.Lists.SetAt.{In_without}
use Rattle.fs_serial.proofs.Places.PutRecords.{AreOn, effects_home}
use Rattle.fs_serial.proofs.Transactions.Agreements.{TellsNone, none_told}
use Rattle.fs_serial.proofs.Transactions.AwaitedWords.{decide_here}
use Rattle.fs_serial.proofs.Transactions.Desks.{heard}
use Rattle.fs_serial.proofs.Transactions.PlacesAfter.{AreWords, StaysHome, answer_words, both_words, no_words, one_word}
use Rattle.fs_serial.proofs.Transactions.PlacesAfter.{places_stepped, unlocked_unless, word_taken}
use Rattle.fs_serial.proofs.Transactions.YesElsewhere.{yes_elsewhere}
use Rattle.fs_field.specs.declared.path.PathAnswer.{PathAnswer}

-- ## What is told

tells_words : (servers : ℕ) (txn : TxnNo) (d : Decision) (out : List (ℕ × ℕ)) → ((n : ℕ × ℕ) → In n out → n.1 < servers)
    → AreWords servers (tells txn d out)
tells_words servers txn d [] h = no_words servers
tells_words servers txn d (x ∷ xs) h =
    let word = peer.Decide (record { txn = txn; number = x.0; effects = told_effects d x.0 }) in
    both_words servers (to_server x.1 word ∷ []) (tells txn d xs)
    (one_word servers x.1 word (record { there = h x (inl refl); names = tt; word = refl }))
    (tells_words servers txn d xs (λ n i. h n (inr i)))

now_words : (servers : ℕ) (out : List (ℕ × ℕ)) (by : Session) (e : LedEnd) → AreWords servers (ends_now out by e)
now_words servers [] by e = answer_words servers by (answer.Led e)
now_words servers (x ∷ xs) by e = no_words servers

-- where nothing is carried out nothing is of this server
none_on : (mine : List ℕ → Bool) (me : ℕ) (l : Leading) (d e : Decision) → d ≡ e → TellsNone e → AreOn mine (own_effects me l d)
none_on mine me l d e is none x i = absurd (subst (In x) (ap (own_effects me l) is ∙ none_told e none (own_parts me l)) i)

module _ (k : ℕ) (c : Cluster) (s : Server) (at : slice_get c.servers k ≡ Some s) (h : PlacesHold c) (led : LedHolds c) where
  s_in : In s c.servers
  s_in = In-got c.servers k s at

  module _ (from : ℕ) (m : ToDecide) (comes : IsThere k (FromPeer from (peer.Decide m)) c) where
    -- the word comes from the leader
    pub told_word : In (word_to (key_of m.txn m.number) k (Decide m.effects)) (telling_of c.in_flight)
    told_word =
        let key = key_of m.txn m.number in
        let w : Told = told_with from k (key, Decide m.effects) in
        let i : In w (telling_of c.in_flight) = (found (is_between from k) (telling_of c.in_flight) w
        (heard from k (peer.Decide m) (key, Decide m.effects) c.in_flight refl comes).first).0 in
        subst (λ j. In (let x : Told = record { from = j; to = k; key = key; word = Decide m.effects } in x) (telling_of c.in_flight))
        (decide_here k from c s at led m comes).leader i

  -- what a part is told is of files that its server manages
  pub told_here : (from : ℕ) (m : ToDecide) → IsThere k (FromPeer from (peer.Decide m)) c → AreOn (is_mine s) m.effects
  told_here from m comes e i =
      told_there c led (key_of m.txn m.number) k m.effects e (told_word from m comes) i s h at

  applied_home : (from : ℕ) (m : ToDecide) → IsThere k (FromPeer from (peer.Decide m)) c → StaysHome s (after_decision m s)
  applied_home from m comes = record {
    me = refl;
    owners = refl;
    rows = unlocked_unless (is_awaited m.txn (without_prepared m.txn m.number s.prepared)) m.txn s.rows;
    records =
        let on = told_here from m comes in
        effects_home (is_mine s) (records_after_all s.records (filter is_undoable m.effects)) (filter takes_away m.effects)
        (λ e i. on e (In-filter takes_away e m.effects i))
        (effects_home (is_mine s) s.records (filter is_undoable m.effects) (λ e i. on e (In-filter is_undoable e m.effects i))
        (h.homes s s_in).records);
  }

  pub decided_places : (from : ℕ) (m : ToDecide) → IsThere k (FromPeer from (peer.Decide m)) c
      → PlacesHold (after_step k (FromPeer from (peer.Decide m)) (applies from m s) c)
  decided_places from m comes =
      let e = FromPeer from (peer.Decide m) in
      let x : Stepped = applies from m s in
      let f : InFlight = record { from = from; to = k; message = peer.Decide m } in
      let i : In f c.in_flight = (found (cluster.is_between from k) c.in_flight f comes).0 in
      let word = peer.Done (record { txn = m.txn; number = m.number }) in
      places_stepped k c s x.server at h (applied_home from m comes) (without_arrived k e c.in_flight) x.out.send x.out.admitted
      (cluster.replies_after e x.out.admitted c.replied) (cluster.with_sent k x.out.send (cluster.without_question k e c.lines))
      (word_taken (cluster.is_between from k) c.in_flight f comes refl) (λ z j. In_without (cluster.is_between from k) c.in_flight z j)
      (one_word (length c.servers) from word (record { there = (h.goes f i).from; names = tt; word = refl }))

  concluded_home : (l : Leading) (path : Option PathAnswer) → AreOn (is_mine s) (own_effects s.me l (decision l.leader path))
      → StaysHome s (concludes l path [] s).server
  concluded_home l path on = record {
    me = refl;
    owners = refl;
    rows = unlocked_unless (keeps_for (decision l.leader path) (elsewhere s.me l)) l.leader.txn s.rows;
    records = effects_home (is_mine s) s.records (own_effects s.me l (decision l.leader path)) on (h.homes s s_in).records;
  }

  pub decision_places : (l : Leading) (path : Option PathAnswer) → In l s.leading
      → AreOn (is_mine s) (own_effects s.me l (decision l.leader path)) → PlacesHold (after_concluded k l path s c)
  decision_places l path i on =
      let x : Stepped = concludes l path [] s in
      let d : Decision = decision l.leader path in
      let out = elsewhere s.me l in
      let by = l.leader.session in
      places_stepped k c s x.server at h (concluded_home l path on) c.in_flight x.out.send x.out.admitted
      (with_items x.out.admitted c.replied) (cluster.with_sent k x.out.send c.lines) refl (λ z j. j)
      (both_words (length c.servers) (tells l.leader.txn d out) (ends_now out by (end_of_decision d))
      (tells_words (length c.servers) l.leader.txn d out (λ n j. (yes_elsewhere k c s at (h.numbered k s at) led l i n j).there))
      (now_words (length c.servers) out by (end_of_decision d)))

  -- a decision that tells nothing
  pub unapplied_places : (l : Leading) (path : Option PathAnswer) → In l s.leading → (d : Decision) → decision l.leader path ≡ d → TellsNone d
      → PlacesHold (after_concluded k l path s c)
  unapplied_places l path i d is none = decision_places l path i (none_on (is_mine s) s.me l (decision l.leader path) d is none)
