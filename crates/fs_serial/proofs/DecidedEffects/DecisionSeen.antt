-- A leader decides: what is told, and the rows of all, whatever the decision is.
use Rattle.std.proofs.Common.{◌≡◌, ◌==◌, ℕ, Bool, true, false, List, [], ◌∷◌, ◌++◌, append-nil, map, cond}
use Rattle.std.proofs.Common.{refl, sym, ap, ap₂, ◌∙◌, inl, inr}
use Rattle.std.specs.Prelude.{Option, Some, is_some, slice_get, slice_set}
use Rattle.std.specs.List.{flat_map}
use Rattle.std.proofs.lemmas.Grind.{flat_map-append}
use Rattle.std.proofs.lemmas.List.{map-append}
use Rattle.fs_ident.specs.In.{In}
use Rattle.fs_ident.specs.declared.actor.Peer.{Peer}
use Rattle.fs_ident.specs.declared.actor.Session.{Session}
use Rattle.fs_ident.specs.declared.actor.TxnNo.{TxnNo}
use Rattle.fs_ident.proofs.Same.{itself}
use Rattle.fs_ident.proofs.Standing.{In-got}
use Rattle.fs_field.specs.Table.{same_txn, unlocked_row}
use Rattle.fs_field.specs.declared.effect.Effect.{Effect}
use Rattle.fs_field.specs.declared.row.Row.{Row}
use Rattle.fs_msg.specs.declared.msg.Msg.{Msg}
use Rattle.fs_record.specs.declared.led_end.LedEnd.{LedEnd}
use Rattle.fs_server.specs.Concludes.{end_of_decision, ends_now, keeps_for, tells}
use Rattle.fs_server.specs.Concludes as server
use Rattle.fs_server.specs.Server.{Stepped}
use Rattle.fs_server.specs.declared.state.Server.{Server}
use Rattle.fs_txn.specs.Deciding.{told_effects}
use Rattle.fs_txn.specs.Grants.{Decided}
use Rattle.fs_txn.specs.Leading.{elsewhere, ending_of, leading_of, stage_in}
use Rattle.fs_txn.specs.Locks.{rows_unlocked}
use Rattle.fs_txn.specs.Stages.{Told, Word}
use Rattle.fs_txn.specs.Stages.Word.{Prepare, Voted, Decide, Done}
use Rattle.fs_txn.specs.declared.decision.Decision.{Decision}
use Rattle.fs_txn.specs.declared.leading.Ending.{Ending}
use Rattle.fs_txn.specs.declared.leading.Leading.{Leading}
use Rattle.fs_txn.proofs.Keys.{txn_is}
use Rattle.fs_serial.specs.Cluster.{Cluster, in_flight_from, parcels_of, with_items, with_sent}
use Rattle.fs_serial.specs.Decided.{decided_for}
use Rattle.fs_serial.specs.Joined.{rows_of_all}
use Rattle.fs_serial.specs.Leading.{IsLeading}
use Rattle.fs_serial.specs.Locks.{IsRelock, at_home}
use Rattle.fs_serial.specs.Refusals.{rows_in}
use Rattle.fs_serial.specs.Words.{decided_at, decided_in, desks_of, ended_in, ending_at, led_in, leading_at, telling_of}
use Rattle.fs_serial.specs.Seen.{ClusterHolds}
use Rattle.fs_serial.proofs.DecidedEffects.Deciding.{not_awaited}
use Rattle.fs_serial.proofs.Moves.Parcels.{parcels-append}
use Rattle.fs_serial.proofs.Places.RelockedRows.{map_itself, rows_relocked, unlocked_relock}
use Rattle.fs_serial.proofs.Transactions.DecidedStill.{decided_told, decided_word, told_is}
use Rattle.fs_serial.proofs.Transactions.Decisions.{decision_word, decision_words}
use Rattle.fs_serial.proofs.Transactions.Desks.{IsDecidingWord, deciding_word, is_at, same_at, telling_append}
use Rattle.fs_serial.proofs.Transactions.Tables.{ending_other, ending_set}

-- ## Lists

pub flat_alike : {X Y : Type 0} (f g : X → List Y) (xs : List X) → ((x : X) → In x xs → f x ≡ g x) → flat_map f xs ≡ flat_map g xs
flat_alike f g [] h = refl
flat_alike f g (x ∷ xs) h = ap₂ (λ ys zs. ys ++ zs) (h x (inl refl)) (flat_alike f g xs (λ y i. h y (inr i)))

-- ## What is sent brings no parcel

none_now : (k : ℕ) (out : List (ℕ × ℕ)) (by : Session) (e : LedEnd) → parcels_of (in_flight_from k (ends_now out by e)) ≡ []
none_now k [] by e = refl
none_now k (x ∷ xs) by e = refl

none_told : (k : ℕ) (txn : TxnNo) (d : Decision) (out : List (ℕ × ℕ)) (more : List (Peer × Msg))
    → parcels_of (in_flight_from k more) ≡ [] → parcels_of (in_flight_from k (tells txn d out ++ more)) ≡ []
none_told k txn d [] more h = h
none_told k txn d (x ∷ xs) more h = none_told k txn d xs more h

-- what these are told is decided
words_decided : (k : ℕ) (servers : List Server) (txn : TxnNo) (d : Decision) (x : Ending) → ended_in servers txn ≡ Some x
    → (out : List (ℕ × ℕ))
    → flat_map (decided_told servers) (map (decision_word k txn d) out)
    ≡ decided_for x.session (flat_map (λ (n : ℕ × ℕ). told_effects d n.0) out)
words_decided k servers txn d x e [] = refl
words_decided k servers txn d x e (n ∷ ns) =
    ap₂ (λ ys zs. ys ++ zs) (ap (λ o. decided_at o (told_effects d n.0)) e) (words_decided k servers txn d x e ns)
    ∙ sym (map-append (λ (y : Effect). let z : Decided = record { by = x.session; effect = y } in z) (told_effects d n.0)
    (flat_map (λ (n : ℕ × ℕ). told_effects d n.0) ns))

module _ (k skew greatest : ℕ) (c : Cluster) (s : Server) (at : slice_get c.servers k ≡ Some s) (h : ClusterHolds skew greatest c)
    (l : Leading) (there : In l s.leading) (d : Decision) where
  abbrev t : TxnNo
  t = l.leader.txn

  abbrev by : Session
  by = l.leader.session

  abbrev out : List (ℕ × ℕ)
  out = elsewhere s.me l

  abbrev pub x : Stepped
  x = server.ends_with d out l [] s

  abbrev pub y : Server
  y = x.server

  abbrev pub after : Cluster
  after = record {
    servers = slice_set c.servers k y;
    in_flight = c.in_flight ++ in_flight_from k x.out.send;
    journal = c.journal ++ x.out.admitted;
    replied = with_items x.out.admitted c.replied;
    lines = with_sent k x.out.send c.lines;
  }

  abbrev ended : Ending
  ended = record { txn = t; session = by; end = end_of_decision d; awaits = out }

  here : In s c.servers
  here = In-got c.servers k s at

  pub leads : IsLeading c.lines s h.led.parts l
  leads = h.led.leading s here l there

  own_place : t.server ≡ k
  own_place = leads.own ∙ h.places.numbered k s at

  mine : (t.server == k) ≡ true
  mine = ap (λ j. t.server == j) (sym own_place) ∙ itself t.server

  -- ## What is told

  pub telling_then : telling_of after.in_flight ≡ telling_of c.in_flight ++ map (decision_word k t d) out
  telling_then = telling_append c.in_flight _ ∙ ap (λ ws. telling_of c.in_flight ++ ws) (decision_words k t d out by (end_of_decision d))

  pub parcels_then : parcels_of after.in_flight ≡ parcels_of c.in_flight
  parcels_then =
      parcels-append c.in_flight (in_flight_from k (tells t d out ++ ends_now out by (end_of_decision d)))
      ∙ ap (λ ps. parcels_of c.in_flight ++ ps)
      (none_told k t d out (ends_now out by (end_of_decision d)) (none_now k out by (end_of_decision d)))
      ∙ append-nil (parcels_of c.in_flight)

  pub led_there : led_in c.servers t ≡ Some l
  led_there =
      ap (λ n. leading_of t (leading_at (slice_get c.servers n))) own_place ∙ ap (λ o. leading_of t (leading_at o)) at ∙ leads.one

  -- what was told before is of other transactions
  pub not_its : (m : Told) → In m (telling_of c.in_flight) → (es : List Effect) → m.word ≡ Decide es → same_txn m.key.txn t ≡ false
  not_its m i es e = off (same_txn m.key.txn t) refl
    where
      w : IsDecidingWord (desks_of h.led.parts c) m.key m
      w = deciding_word (desks_of h.led.parts c) m.key m refl h.led.stages i es e

      off : (b : Bool) → same_txn m.key.txn t ≡ b → b ≡ false
      off true q = absurd (not_awaited (slice_get l.at m.key.part) (slice_get l.leader.votes m.key.part) w.at
          (sym (ap (λ o. stage_in m.key.part o (ended_in c.servers m.key.txn)) (ap (led_in c.servers) (txn_is m.key.txn t q) ∙ led_there))
          ∙ w.stage))
      off false q = refl

  pub old_same : (m : Told) → In m (telling_of c.in_flight) → decided_told after.servers m ≡ decided_told c.servers m
  old_same m i = by_word m.word refl
    where
      still : same_txn m.key.txn t ≡ false → ended_in after.servers m.key.txn ≡ ended_in c.servers m.key.txn
      still off = same_at c.servers k s y at (λ o. ending_of m.key.txn (ending_at o)) (ending_other ended m.key.txn s.ending off)
          m.key.txn.server

      by_word : (w : Word) → m.word ≡ w → decided_word after.servers m.key.txn w ≡ decided_word c.servers m.key.txn w
      by_word (Prepare v) e = refl
      by_word (Voted v) e = refl
      by_word Done e = refl
      by_word (Decide es) e = ap (λ o. decided_at o es) (still (not_its m i es e))

  new_told : (o : List (ℕ × ℕ)) → out ≡ o
      → flat_map (decided_told after.servers) (map (decision_word k t d) o)
      ≡ decided_for by (flat_map (λ (n : ℕ × ℕ). told_effects d n.0) o)
  new_told [] e = refl
  new_told (n ∷ ns) e =
      words_decided k after.servers t d ended
      (ap (λ o. ending_of t (ending_at o)) (is_at c.servers k s y at t.server mine)
      ∙ ending_set ended s.ending (ap (λ o. is_some (slice_get o 0)) e)) (n ∷ ns)

  pub told_then : decided_in after ≡ decided_in c ++ decided_for by (flat_map (λ (n : ℕ × ℕ). told_effects d n.0) out)
  told_then =
      told_is after.servers after.in_flight
      ∙ ap (flat_map (decided_told after.servers)) telling_then
      ∙ flat_map-append (decided_told after.servers) (telling_of c.in_flight) (map (decision_word k t d) out)
      ∙ ap₂ (λ ys zs. ys ++ zs)
      (flat_alike (decided_told after.servers) (decided_told c.servers) (telling_of c.in_flight) old_same
      ∙ sym (told_is c.servers c.in_flight))
      (new_told out refl)

  -- ## Rows

  -- what is done to each row of its own
  abbrev pub relock : Row → Row
  relock r = cond (keeps_for d out) r (unlocked_row t r)

  pub is_relock : IsRelock relock
  is_relock r = elim (keeps_for d out) as (λ b. (lock : Option TxnNo) × (cond b r (unlocked_row t r) ≡ record r { lock = lock })) [
    | true ↦ (r.lock, refl)
    | false ↦ unlocked_relock t r
  ]

  rows_so : y.rows ≡ map relock s.rows
  rows_so = elim (keeps_for d out) as (λ b. cond b s.rows (rows_unlocked t s.rows) ≡ map (λ r. cond b r (unlocked_row t r)) s.rows) [
    | true ↦ sym (map_itself s.rows)
    | false ↦ refl
  ]

  pub rows_are : rows_in after ≡ map (at_home s relock) (rows_in c)
  rows_are = ap (rows_of_all after.servers) parcels_then ∙ rows_relocked k c s y at h.places relock is_relock rows_so
