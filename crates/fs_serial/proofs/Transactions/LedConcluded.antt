-- A leader decides a transaction: all that holds of transactions stays, where what is told then is as it has to be.
use mathlib.Core.Path.{fun_ext}
use Rattle.std.proofs.Common.{◌≡◌, ◌==◌, ◌≤◌, ℕ, Bool, true, false, not, List, [], ◌∷◌, ◌++◌, length, map, refl, sym, ap, ap₂, ◌∙◌, subst, cond, inl, inr, append-nil, arith}
use Rattle.std.specs.Prelude.{◌≢◌, Option, Some, None, is_some, option_map, slice_get}
use Rattle.std.specs.List.{find, flat_map}
use Rattle.std.proofs.lemmas.Bool.{not-true}
use Rattle.std.proofs.lemmas.List.Elements.{filter-append}
use Rattle.fs_ident.specs.In.{In}
use Rattle.fs_ident.specs.declared.actor.Session.{Session}
use Rattle.fs_ident.specs.declared.actor.TxnNo.{TxnNo}
use Rattle.fs_ident.proofs.Booleans.{both, joined}
use Rattle.fs_ident.proofs.Passing.{all-In, found}
use Rattle.fs_ident.proofs.Same.{itself}
use Rattle.fs_ident.proofs.Standing.{In-append, In-filter, In-got, In-map, In-mapped, none_pass}
use Rattle.fs_field.specs.Table.{is_lock_of, same_txn, unlocked_row}
use Rattle.fs_field.specs.declared.effect.Effect.{Effect}
use Rattle.fs_field.specs.declared.path.PathAnswer.{PathAnswer}
use Rattle.fs_field.specs.declared.row.Row.{Row}
use Rattle.fs_field.specs.declared.vote.Vote.{Vote}
use Rattle.fs_field.specs.declared.vote.Vote.TheVariants.{Yes, Ended, Moved, PathsOut}
use Rattle.fs_model.specs.declared.op.Op.{Op}
use Rattle.fs_model.specs.declared.op.Op.TheVariants as op
use Rattle.fs_model.specs.declared.reply.Reply.TheVariants as reply
use Rattle.fs_parcel.proofs.Both.{passing}
use Rattle.fs_record.specs.declared.led_end.LedEnd.{LedEnd}
use Rattle.fs_record.specs.declared.led_end.LedEnd.TheVariants as end
use Rattle.fs_record.specs.declared.led_end.Why.TheVariants as why
use Rattle.fs_client.specs.Led.{can_end_with, end_fits}
use Rattle.fs_client.specs.declared.led.Led.{Led}
use Rattle.fs_server.specs.Concludes.{concludes, end_of_decision, keeps_for}
use Rattle.fs_server.specs.Leads.{is_led}
use Rattle.fs_server.specs.LeadingLaws.{of_number}
use Rattle.fs_server.specs.Server.{Stepped}
use Rattle.fs_server.specs.declared.state.Server.{Server}
use Rattle.fs_txn.specs.Deciding.{agreed, decision, end_of_place, first_end, keeps_rows, or_else, reply_of, told_effects, unless_ended}
use Rattle.fs_txn.specs.Leading.{awaited_stage, elsewhere, ending_of, keeps_till_done, leading_of, said_by, stage_by, stage_in, yes_parts}
use Rattle.fs_txn.specs.Locks.{Agreed, Kept, LocksHold, rows_unlocked, without_kept, without_txn}
use Rattle.fs_txn.specs.Ready.{agreed_of, is_part}
use Rattle.fs_txn.specs.Stages.{IsStage, Key, Stage, StagesHold, Told, Wanted, is_of, told_of, word_to}
use Rattle.fs_txn.specs.Stages.Stage.{Unknown, Counted, Awaited}
use Rattle.fs_txn.specs.Stages.Word.{Decide}
use Rattle.fs_txn.specs.Telling.{with_key}
use Rattle.fs_txn.specs.Votes.{Votes, is_full}
use Rattle.fs_txn.specs.declared.decision.Decision.{Decision}
use Rattle.fs_txn.specs.declared.decision.Decision.TheVariants.{Commit, Abort}
use Rattle.fs_txn.specs.declared.leader.Leader.{Leader}
use Rattle.fs_txn.specs.declared.leading.Ending.{Ending}
use Rattle.fs_txn.specs.declared.leading.Leading.{Leading}
use Rattle.fs_txn.specs.declared.ready.Ready.{Ready}
use Rattle.fs_txn.proofs.Keys.{key_itself, kept_in, told_push, txn_is, txn_itself}
use Rattle.fs_txn.proofs.Locked.{commit_keeps, last_keeps}
use Rattle.fs_txn.proofs.Telling.{drops, tells}
use Rattle.fs_serial.specs.Cluster.{Cluster}
use Rattle.fs_serial.specs.Conclusions.{after_concluded}
use Rattle.fs_serial.specs.Leading.{IsEnded, IsLeaderOf, IsLeading, IsLedBy, IsToldOf, LedHolds}
use Rattle.fs_serial.specs.Words.{desks_of, ended_in, ending_at, kept_at, key_of, leading_at, prepared_in, ready_at, said_at, stage_of_key, telling_of, wanted_of}
use Rattle.fs_serial.proofs.Transactions.Agreements.{Agrees, agrees, can_cycle, carried, cycled, needs_comes, put_off}
use Rattle.fs_serial.proofs.Transactions.Decisions.{IsTold, awaited_first, decision_word, decision_words, first_awaited, is_told, none_of_words, words_of, yes_said}
use Rattle.fs_serial.proofs.Transactions.Decisions.IsTold.{told, untold}
use Rattle.fs_serial.proofs.Transactions.Desks.{FilesApart, each_after, ended_then, files_still, is_at, leading_then, not_at_home, prepared_set, same_at, telling_append, told_then, was_at}
use Rattle.fs_serial.proofs.Transactions.OthersKeep.{ended_waits, leading_waits, sent_client, waits_alike}
use Rattle.fs_serial.proofs.Transactions.OwnersOfLocks.{in_range, said_session, session_by, session_of}
use Rattle.fs_serial.proofs.Transactions.Tables.{all_stay, ending_kept, ending_other, ending_over, ending_set, ending_there, in_kept, in_with_ending, in_without_leading, kept_there, leading_gone, leading_left, locks_alike, said_left, txn_apart}

-- ## Votes and ends

-- where all have voted no place is empty
none_empty : (votes : Votes) (n : ℕ) → is_full votes ≡ true → slice_get votes n ≡ Some None → ⊥
none_empty votes n h e = let wrong : false ≡ true = all-In is_some votes h None (In-got votes n None e) in absurd (cc wrong)

vote_fits : (d : Led) (v : Option Vote) (e : LedEnd) → end_of_place v ≡ Some e → end_fits (Some d) e ≡ true
vote_fits d None e h = let q : end.Again why.Changed ≡ e = cc in ap (end_fits (Some d)) (sym q)
vote_fits d (Some Yes) e h = absurd (cc h)
vote_fits d (Some (Ended n u w)) e h = let q : end.Ended n u w ≡ e = cc in ap (end_fits (Some d)) (sym q)
vote_fits d (Some (Moved p t)) e h = let q : end.Again (why.Moved p t) ≡ e = cc in ap (end_fits (Some d)) (sym q)
vote_fits d (Some (PathsOut n)) e h = let q : end.Again (why.PathsOut n) ≡ e = cc in ap (end_fits (Some d)) (sym q)

first_fits : (d : Led) (votes : Votes) (e : LedEnd) → first_end votes ≡ Some e → end_fits (Some d) e ≡ true
first_fits d [] e h = absurd (cc h)
first_fits d (v ∷ vs) e h = by (end_of_place v) refl h (λ g. first_fits d vs e g)
  where
    by : (o : Option LedEnd) → end_of_place v ≡ o → or_else o (first_end vs) ≡ Some e → (first_end vs ≡ Some e → end_fits (Some d) e ≡ true)
        → end_fits (Some d) e ≡ true
    by (Some f) q g rest = vote_fits d v e (q ∙ g)
    by None q g rest = rest g

can_end : (o : Op) → is_led o ≡ true → can_end_with o (reply_of o) ≡ true
can_end (op.Delete dir name) h = refl
can_end (op.Rename sdir sname ddir dname) h = refl
can_end o h = absurd (cc h)

agreed_fits : (l : Leader) (d : Led) → IsLeaderOf l d → is_led l.op ≡ true → (path : Option PathAnswer) (x : Decision) → Agrees l path x
    → end_fits (Some d) (end_of_decision x) ≡ true
agreed_fits l d its h path x (carried off) = ap (λ o. can_end_with o (reply_of l.op)) (sym its.op) ∙ can_end l.op h
agreed_fits l d its h path x (cycled n on) =
    ap (λ o. can_end_with o reply.Cycle) (sym its.op) ∙ can_cycle d.kind l.op (needs_comes l.mode d.kind l.op its.mode n)
agreed_fits l d its h path x (put_off w) = refl

decision_fits : (l : Leader) (d : Led) → IsLeaderOf l d → is_led l.op ≡ true → (path : Option PathAnswer)
    → end_fits (Some d) (end_of_decision (decision l path)) ≡ true
decision_fits l d its h path = elim (first_end l.votes) as
    (λ o. first_end l.votes ≡ o → end_fits (Some d) (end_of_decision (unless_ended o (agreed l path))) ≡ true) [
      | None ↦ λ e. agreed_fits l d its h path (agreed l path) (agrees l d.kind path its.mode)
      | Some f ↦ λ e. first_fits d l.votes f e
    ] refl

-- the rows that are kept are those of a rename
keeps_end : (d : Decision) → keeps_rows d ≡ true → keeps_till_done (end_of_decision d) ≡ true
keeps_end (Commit reply.Renamed effects) h = refl
keeps_end (Commit r effects) h = absurd (cc h)
keeps_end (Abort e) h = absurd (cc h)

-- ## The decision

-- a part of a transaction of which all have voted is counted, or there is none of that number
pub data WasCounted (stage : Stage) (asked : Option ℕ) (vote : Option (Option Vote)) : Type 0 where
  no_part : stage ≡ Unknown → WasCounted stage asked vote
  counted : (p : ℕ) (v : Vote) → stage ≡ Counted p v → vote ≡ Some (Some v) → asked ≡ Some p → WasCounted stage asked vote

was_counted : (a : Option ℕ) (v : Option (Option Vote)) → (v ≡ Some None → ⊥) → WasCounted (stage_by a v) a v
was_counted None v n = no_part refl
was_counted (Some p) None n = no_part refl
was_counted (Some p) (Some None) n = absurd (n refl)
was_counted (Some p) (Some (Some v)) n = counted p v refl refl refl

module _ (k : ℕ) (c : Cluster) (s : Server) (at : slice_get c.servers k ≡ Some s) (held : LedHolds c) (me : s.me ≡ k) (l : Leading)
    (path : Option PathAnswer) (led : leading_of l.leader.txn s.leading ≡ Some l) (full : is_full l.leader.votes ≡ true) where
  abbrev t : TxnNo
  t = l.leader.txn

  abbrev by : Session
  by = l.leader.session

  abbrev d : Decision
  d = decision l.leader path

  abbrev out : List (ℕ × ℕ)
  out = elsewhere s.me l

  abbrev x : Stepped
  x = concludes l path [] s

  abbrev y : Server
  y = x.server

  abbrev after : Cluster
  after = after_concluded k l path s c

  abbrev ended : Ending
  ended = record { txn = t; session = by; end = end_of_decision d; awaits = out }

  here : In s c.servers
  here = In-got c.servers k s at

  there : In l s.leading
  there = (found (λ (m : Leading). same_txn m.leader.txn t) s.leading l led).0

  leads : IsLeading c.lines s held.parts l
  leads = held.leading s here l there

  own : t.server ≡ k
  own = leads.own ∙ me

  mine : (t.server == k) ≡ true
  mine = ap (λ j. t.server == j) (sym own) ∙ itself t.server

  -- ## Where its parts stand

  over : (o : List (ℕ × ℕ)) (n : ℕ) (z : Ending) → z.awaits ≡ o → (w : Option Ending) → (is_some (slice_get o 0) ≡ true → w ≡ Some z)
      → (is_some (slice_get o 0) ≡ false → w ≡ None) → stage_in n None w ≡ awaited_stage n o
  over [] n z e w some none = ap (stage_in n None) (none refl)
  over (a ∷ rest) n z e w some none = ap (stage_in n None) (some refl) ∙ ap (awaited_stage n) e

  stage_own : (n : ℕ) → stage_of_key after.servers (key_of t n) ≡ awaited_stage n out
  stage_own n =
      ap (λ o. stage_in n (leading_of t (leading_at o)) (ending_of t (ending_at o))) (is_at c.servers k s y at t.server mine)
      ∙ ap (λ o. stage_in n o (ending_of t y.ending)) (leading_gone t s.leading)
      ∙ over out n ended refl (ending_of t y.ending) (ending_set ended s.ending) (ending_over ended s.ending)

  stage_was_own : (n : ℕ) → stage_of_key c.servers (key_of t n) ≡ stage_by (slice_get l.at n) (slice_get l.leader.votes n)
  stage_was_own n =
      ap (λ o. stage_in n (leading_of t (leading_at o)) (ending_of t (ending_at o))) (was_at c.servers k s y at t.server mine)
      ∙ ap (λ o. stage_in n o (ending_of t s.ending)) led

  its : (P : Key → Type 0) (key : Key) → same_txn t key.txn ≡ true → P (key_of t key.part) → P key
  its P key e h = subst (λ u. P (key_of u key.part)) (txn_is t key.txn e) h

  stage_then : (key : Key) → same_txn t key.txn ≡ true → stage_of_key after.servers key ≡ awaited_stage key.part out
  stage_then key e = its (λ z. stage_of_key after.servers z ≡ awaited_stage z.part out) key e (stage_own key.part)

  stage_was : (key : Key) → same_txn t key.txn ≡ true
      → stage_of_key c.servers key ≡ stage_by (slice_get l.at key.part) (slice_get l.leader.votes key.part)
  stage_was key e = its (λ z. stage_of_key c.servers z ≡ stage_by (slice_get l.at z.part) (slice_get l.leader.votes z.part)) key e
      (stage_was_own key.part)

  stage_other : (key : Key) → same_txn t key.txn ≡ false → stage_of_key after.servers key ≡ stage_of_key c.servers key
  stage_other key e =
      let apart : same_txn key.txn t ≡ false = txn_apart t key.txn e in
      ap₂ (stage_in key.part)
      (same_at c.servers k s y at (λ o. leading_of key.txn (leading_at o)) (leading_left key.txn t s.leading apart) key.txn.server)
      (same_at c.servers k s y at (λ o. ending_of key.txn (ending_at o)) (ending_other ended key.txn s.ending apart) key.txn.server)

  -- ## What is told

  pub telling_after : telling_of after.in_flight ≡ telling_of c.in_flight ++ map (decision_word k t d) out
  telling_after = telling_append c.in_flight _ ∙ ap (λ ws. telling_of c.in_flight ++ ws) (decision_words k t d out by (end_of_decision d))

  told_now : (key : Key) → told_of key (telling_of after.in_flight) ≡ told_of key (telling_of c.in_flight) ++ told_of key
      (map (decision_word k t d) out)
  told_now key = ap (told_of key) telling_after ∙ filter-append (is_of key) (telling_of c.in_flight) (map (decision_word k t d) out)

  none_new : (key : Key) → told_of key (map (decision_word k t d) out) ≡ []
      → told_of key (telling_of after.in_flight) ≡ told_of key (telling_of c.in_flight)
  none_new key e = told_now key ∙ ap (λ ws. told_of key (telling_of c.in_flight) ++ ws) e
      ∙ append-nil (told_of key (telling_of c.in_flight))

  -- ## One part

  abbrev Stands : Key → Stage → List Told → Type 0
  Stands key st words = IsStage key (held.parts key) st (λ j. prepared_in c.servers j key) words

  stands : (key : Key) (st : Stage) (words : List Told) → stage_of_key after.servers key ≡ st
      → told_of key (telling_of after.in_flight) ≡ words → Stands key st words
      → IsStage key (held.parts key) (stage_of_key after.servers key) (λ j. prepared_in after.servers j key)
      (told_of key (telling_of after.in_flight))
  stands key st words e f h =
      let same : (λ j. prepared_in c.servers j key) ≡ (λ j. prepared_in after.servers j key) =
      fun_ext (λ j. sym (prepared_set c.servers k s y at refl j key)) in
      subst (λ z. IsStage key (held.parts key) z (λ j. prepared_in after.servers j key) (told_of key (telling_of after.in_flight))) (sym e)
      (subst (λ z. IsStage key (held.parts key) st (λ j. prepared_in after.servers j key) z) (sym f)
      (subst (λ z. IsStage key (held.parts key) st z words) same h))

  counted_so : (key : Key) → same_txn t key.txn ≡ true
      → WasCounted (stage_of_key c.servers key) (slice_get l.at key.part) (slice_get l.leader.votes key.part)
  counted_so key e = subst (λ z. WasCounted z (slice_get l.at key.part) (slice_get l.leader.votes key.part)) (sym (stage_was key e))
      (was_counted (slice_get l.at key.part) (slice_get l.leader.votes key.part) (none_empty l.leader.votes key.part full))

  at_stage : (key : Key) (st : Stage) → stage_of_key c.servers key ≡ st → Stands key st (told_of key (telling_of c.in_flight))
  at_stage key st e = subst (λ z. Stands key z (told_of key (telling_of c.in_flight))) e (held.stages key)

  silent : (key : Key) → same_txn t key.txn ≡ true → told_of key (telling_of c.in_flight) ≡ []
  silent key e = elim (counted_so key e) as (λ _. told_of key (telling_of c.in_flight) ≡ []) [
    | no_part u ↦ (at_stage key Unknown u).0
    | counted p v u f g ↦ (at_stage key (Counted p v) u).0
  ]

  server_is : (key : Key) → same_txn t key.txn ≡ true → s.me ≡ key.txn.server
  server_is key e = sym leads.own ∙ ap (λ (u : TxnNo). u.server) (txn_is t key.txn e)

  word_is : (key : Key) (p : ℕ) → same_txn t key.txn ≡ true
      → decision_word k t d (key.part, p) ≡ word_to key p (Decide (told_effects d key.part))
  word_is key p e =
      ap₂ (λ (from : ℕ) (u : TxnNo). let m : Told = record {
        from = from;
        to = p;
        key = key_of u key.part;
        word = Decide (told_effects d key.part);
      } in m) (sym me ∙ server_is key e) (txn_is t key.txn e)

  -- it said Yes elsewhere, and is told
  tell : (key : Key) → same_txn t key.txn ≡ true → (p : ℕ) → of_number key.part out ≡ (key.part, p) ∷ []
      → slice_get l.leader.votes key.part ≡ Some (Some Yes) → slice_get l.at key.part ≡ Some p → (p == s.me) ≡ false
      → IsStage key (held.parts key) (stage_of_key after.servers key) (λ j. prepared_in after.servers j key)
      (told_of key (telling_of after.in_flight))
  tell key e p q v a f =
      let es : List Effect = told_effects d key.part in
      let counted : stage_of_key c.servers key ≡ Counted p Yes = stage_was key e ∙ ap₂ stage_by a v in
      let away : (p == key.txn.server) ≡ false = ap (λ j. p == j) (sym (server_is key e)) ∙ f in
      let words : told_of key (telling_of c.in_flight ++ word_to key p (Decide es) ∷ []) ≡ told_of key
      (telling_of c.in_flight) ++ word_to key p (Decide es) ∷ [] =
      told_push key (word_to key p (Decide es)) (telling_of c.in_flight) refl in
      let now : told_of key (telling_of after.in_flight) ≡ told_of key (telling_of c.in_flight) ++ word_to key p (Decide es) ∷ [] =
      told_now key ∙ ap (λ ws. told_of key (telling_of c.in_flight) ++ ws)
      (words_of k t d key out e ∙ ap (map (decision_word k t d)) q ∙ ap (λ w. w ∷ []) (word_is key p e)) in
      stands key (Awaited p) (told_of key (telling_of c.in_flight) ++ word_to key p (Decide es) ∷ [])
      (stage_then key e ∙ awaited_first key.part out ∙ ap first_awaited q) now
      (subst (λ z. Stands key z (told_of key (telling_of c.in_flight) ++ word_to key p (Decide es) ∷ []))
      (ap (λ b. cond b (Awaited p) (stage_of_key c.servers key)) (key_itself key))
      (subst (λ z. Stands key (with_key key (Awaited p) (stage_of_key c.servers) key) z) words
      (tells (desks_of held.parts c) key p es held.stages counted away key)))

  -- it is over at once
  drop : (key : Key) → same_txn t key.txn ≡ true → of_number key.part out ≡ []
      → ((p : ℕ) → slice_get l.leader.votes key.part ≡ Some (Some Yes) → slice_get l.at key.part ≡ Some p → (p == s.me) ≡ true)
      → IsStage key (held.parts key) (stage_of_key after.servers key) (λ j. prepared_in after.servers j key)
      (told_of key (telling_of after.in_flight))
  drop key e q f =
      stands key Unknown (told_of key (telling_of c.in_flight)) (stage_then key e ∙ awaited_first key.part out ∙ ap first_awaited q)
      (none_new key (words_of k t d key out e ∙ ap (map (decision_word k t d)) q))
      (elim (counted_so key e) as (λ _. Stands key Unknown (told_of key (telling_of c.in_flight))) [
        | no_part u ↦ at_stage key Unknown u
        | counted p v u g a ↦
            subst (λ z. Stands key z (told_of key (telling_of c.in_flight)))
            (ap (λ b. cond b Unknown (stage_of_key c.servers key)) (key_itself key))
            (drops (desks_of held.parts c) key p v held.stages u
            (λ yes. ap (λ j. p == j) (sym (server_is key e)) ∙ f p (g ∙ ap Some (yes_said (Some v) yes)) a) key)
      ])

  pub stages_concluded : StagesHold (desks_of held.parts after)
  stages_concluded key = at_txn (same_txn t key.txn) refl
    where
      at_number : same_txn t key.txn ≡ true → IsTold s.me key.part out (slice_get l.leader.votes key.part) (slice_get l.at key.part)
          → IsStage key (held.parts key) (stage_of_key after.servers key) (λ j. prepared_in after.servers j key)
          (told_of key (telling_of after.in_flight))
      at_number e (told p q v a f) = tell key e p q v a f
      at_number e (untold q f) = drop key e q f

      at_txn : (b : Bool) → same_txn t key.txn ≡ b
          → IsStage key (held.parts key) (stage_of_key after.servers key) (λ j. prepared_in after.servers j key)
          (told_of key (telling_of after.in_flight))
      at_txn true e = at_number e (is_told s.me key.part l)
      at_txn false e = stands key (stage_of_key c.servers key) (told_of key (telling_of c.in_flight)) (stage_other key e)
          (none_new key (none_of_words k t d key out e)) (held.stages key)

  -- ## Its files

  pub files_concluded : FilesApart held.parts (stage_of_key after.servers)
  files_concluded = files_still held.parts (stage_of_key c.servers) (stage_of_key after.servers) older held.files
    where
      at_number : (key : Key) → same_txn t key.txn ≡ true → stage_of_key after.servers key ≢ Unknown
          → IsTold s.me key.part out (slice_get l.leader.votes key.part) (slice_get l.at key.part) → stage_of_key c.servers key ≢ Unknown
      at_number key e n (told p q v a f) u = let wrong : Counted p Yes ≡ Unknown =
          sym (stage_was key e ∙ ap₂ stage_by a v) ∙ u in absurd (cc wrong)
      at_number key e n (untold q f) u = n (stage_then key e ∙ awaited_first key.part out ∙ ap first_awaited q)

      at_txn : (key : Key) (b : Bool) → same_txn t key.txn ≡ b → stage_of_key after.servers key ≢ Unknown
          → stage_of_key c.servers key ≢ Unknown
      at_txn key true e n = at_number key e n (is_told s.me key.part l)
      at_txn key false e n = λ u. n (stage_other key e ∙ u)

      older : (key : Key) → stage_of_key after.servers key ≢ Unknown → stage_of_key c.servers key ≢ Unknown
      older key = at_txn key (same_txn t key.txn) refl

  -- ## Its locks

  none_ready : (r : Ready) → In r s.prepared → same_txn r.txn t ≡ false
  none_ready r i = off_if (same_txn r.txn t) refl
    where
      key : Key
      key = key_of t r.number

      none : find (is_part t r.number) s.prepared ≡ None
      none = elim (find (is_part t r.number) s.prepared) as (λ o. option_map wanted_of o ≡ None → o ≡ None) [
        | None ↦ λ e. refl
        | Some z ↦ λ e. absurd (cc e)
      ]
          (sym (ap (λ o. option_map wanted_of (find (is_part t r.number) (ready_at o))) (was_at c.servers k s y at t.server mine))
          ∙ not_at_home key (held.parts key) (stage_of_key c.servers key) (λ j. prepared_in c.servers j key)
          (told_of key (telling_of c.in_flight)) (held.stages key))

      off_if : (b : Bool) → same_txn r.txn t ≡ b → b ≡ false
      off_if true e = sym (joined _ _ e (itself r.number)) ∙ none_pass (is_part t r.number) s.prepared none r i
      off_if false e = refl

  pub said_then : without_txn t (said_at s) ≡ said_at y
  said_then =
      filter-append (λ (z : Agreed). not (same_txn z.key.txn t)) (map agreed_of s.prepared) (flat_map (said_by s.me) s.leading)
      ∙ ap₂ (λ a b. a ++ b)
      (all_stay (λ (z : Agreed). not (same_txn z.key.txn t)) (map agreed_of s.prepared)
      (λ z i. let q = In-map agreed_of z s.prepared i in ap (λ (a : Agreed). not (same_txn a.key.txn t)) q.1.1
      ∙ ap not (none_ready q.0 q.1.0)))
      (sym (said_left s.me t s.leading))

  -- each part of the transaction here is its session's
  one_session : (z : Agreed) → In z (said_at s) → z.key.txn ≡ t → z.wanted.session ≡ by
  one_session z i e =
      let its : session_of c.servers t ≡ Some by =
      ap (λ o. session_by o (ended_in c.servers t)) (ap (λ o. leading_of t (leading_at o)) (was_at c.servers k s y at t.server mine) ∙ led) in
      let same : Some z.wanted.session ≡ Some by = sym (said_session c held s k at me z i) ∙ ap (session_of c.servers) e ∙ its in
      cc

  abbrev its_commit : Kept
  its_commit = record { txn = t; session = by }

  no_ending : (z : Ending) → In z s.ending → same_txn z.txn t ≡ false
  no_ending z i = none_pass (λ (a : Ending). same_txn a.txn t) s.ending leads.only z i

  kept_still : (z : Kept) → In z (kept_at s) → In z (kept_at y)
  kept_still z i =
      let q = in_kept s.ending z i in
      let same : z ≡ (let a : Kept = record { txn = (q.0).txn; session = (q.0).session } in a) =
      ap₂ (λ (u : TxnNo) (v : Session). let a : Kept = record { txn = u; session = v } in a) q.1.1.1.0 q.1.1.1.1 in
      subst (λ a. In a (kept_at y)) (sym same)
      (kept_there q.0 y.ending (ending_kept ended s.ending q.0 q.1.0 (no_ending q.0 q.1.0)) q.1.1.0)

  committed : LocksHold s.rows (said_at y) (its_commit ∷ kept_at s)
  committed = subst (λ z. LocksHold s.rows z (its_commit ∷ kept_at s)) said_then
      (commit_keeps s.rows (said_at s) (kept_at s) its_commit (held.locks s here) one_session)

  -- its rows stay locked behind a rename
  kept_locks : keeps_for d out ≡ true → LocksHold s.rows (said_at y) (kept_at y)
  kept_locks e =
      let q = both (keeps_rows d) (is_some (slice_get out 0)) e in
      locks_alike s.rows (said_at y) (said_at y) (its_commit ∷ kept_at s) (kept_at y) (λ z i. i) (λ z i. i)
      (λ z i. elim i as (λ _. In z (kept_at y)) [
        | inl same ↦ subst (λ a. In a (kept_at y)) (sym same)
            (kept_there ended y.ending (ending_there ended s.ending q.1) (keeps_end d q.0))
        | inr j ↦ kept_still z j
      ]) committed

  pub none_said : (z : Agreed) → In z (said_at y) → same_txn z.key.txn t ≡ false
  none_said z i = not-true (same_txn z.key.txn t)
      (passing (λ (a : Agreed). not (same_txn a.key.txn t)) (said_at s) z (subst (In z) (sym said_then) i))

  -- else they are unlocked
  freed_locks : LocksHold (rows_unlocked t s.rows) (said_at y) (kept_at y)
  freed_locks =
      locks_alike (rows_unlocked t s.rows) (said_at y) (said_at y) (without_kept t (its_commit ∷ kept_at s)) (kept_at y) (λ z i. i)
      (λ z i. i)
      (λ z i. elim (In-filter (λ (a : Kept). not (same_txn a.txn t)) z (its_commit ∷ kept_at s) i) as (λ _. In z (kept_at y)) [
        | inl same ↦
            let wrong : true ≡ false = sym (passing (λ (a : Kept). not (same_txn a.txn t)) (its_commit ∷ kept_at s) z i)
            ∙ ap (λ (a : Kept). not (same_txn a.txn t)) same ∙ ap not (txn_itself t) in
            absurd (cc wrong)
        | inr j ↦ kept_still z j
      ])
      (last_keeps s.rows (said_at y) (its_commit ∷ kept_at s) t committed none_said)

  pub locks_concluded : LocksHold y.rows (said_at y) (kept_at y)
  locks_concluded = elim (keeps_for d out) as
      (λ b. keeps_for d out ≡ b → LocksHold (cond b s.rows (rows_unlocked t s.rows)) (said_at y) (kept_at y)) [
        | true ↦ kept_locks
        | false ↦ λ e. freed_locks
      ] refl

  -- ## Its tables

  waits_still : (z : Session) (n : ℕ) (m : Led) → IsLedBy c.lines z n m → IsLedBy after.lines z n m
  waits_still z n m h = waits_alike c.lines after.lines z n m (sent_client k x.out.send c.lines z) h

  leading_here : (m : Leading) → In m y.leading → IsLeading c.lines y held.parts m
  leading_here m i =
      let j = in_without_leading t s.leading m i in
      leading_then c.lines s y held.parts refl (omega arith) m
      (leading_left m.leader.txn t s.leading j.1 ∙ (held.leading s here m j.0).one)
      (ending_other ended m.leader.txn s.ending j.1 ∙ (held.leading s here m j.0).only) (held.leading s here m j.0)

  -- each part that is awaited then is another server's, and the session's
  awaited_out : (n : ℕ × ℕ) → In n out → ((n.1 == s.me) ≡ false) × ((held.parts (key_of t n.0)).session ≡ by)
  awaited_out n i = (
    not-true (n.1 == s.me) (passing (λ (a : ℕ × ℕ). not (a.1 == s.me)) (yes_parts l) n i),
    of_part (is_told s.me n.0 l),
  )
    where
      of_part : IsTold s.me n.0 out (slice_get l.leader.votes n.0) (slice_get l.at n.0) → (held.parts (key_of t n.0)).session ≡ by
      of_part (told p q v a f) =
          let part = in_range l.leader.votes l.leader.parts n.0 (Some Yes) leads.votes v in
          ap (λ (w : Wanted). w.session) (leads.wanted n.0 part.0 part.1)
      of_part (untold q f) = absurd (subst (In n) q (kept_in (λ (a : ℕ × ℕ). a.0 == n.0) n out i (itself n.0)))

  module _ (is : is_led l.leader.op ≡ true)
      (few : (o : Key) (to : ℕ) (effects : List Effect) → In (word_to o to (Decide effects)) (telling_of after.in_flight)
      → length effects ≤ 1)
      (told_new : (n : ℕ × ℕ) → In n out → (e : Effect) → In e (told_effects d n.0)
      → IsToldOf after.servers (key_of t n.0) (held.parts (key_of t n.0)) e) where
    ending_here : (m : Ending) → In m y.ending → IsEnded c.lines y held.parts m
    ending_here m i = elim (in_with_ending ended s.ending m i) as (λ _. IsEnded c.lines y held.parts m) [
      | inl q ↦ subst (IsEnded c.lines y held.parts) (sym q.0) (record {
        own = leads.own;
        begun = leads.begun;
        one = ending_set ended s.ending q.1;
        only = leading_gone t s.leading;
        waits = λ e. let wrong : true ≡ false = sym q.1 ∙ ap (λ o. is_some (slice_get o 0)) e in absurd (cc wrong);
        awaited = awaited_out;
        led = leads.led;
        client = leads.client;
        fits = decision_fits l.leader leads.led leads.leader is path;
      })
      | inr q ↦
          let z = held.ending s here m q.0 in
          ended_then c.lines s y held.parts refl (omega arith) m (ending_other ended m.txn s.ending q.1 ∙ z.one)
          (leading_left m.txn t s.leading q.1 ∙ z.only) z
    ]

    -- a row that another transaction locks stays
    rows_stay : (u : TxnNo) → same_txn u t ≡ false → (r : Row) → In r s.rows → r.lock ≡ Some u → In r y.rows
    rows_stay u off r i e = elim (keeps_for d out) as (λ b. In r (cond b s.rows (rows_unlocked t s.rows))) [
      | true ↦ i
      | false ↦ subst (λ z. In z (rows_unlocked t s.rows))
          (ap (λ b. cond b (let q : Row = record r { lock = None } in q) r) (ap (is_lock_of t) e ∙ off))
          (In-mapped (unlocked_row t) r s.rows i)
    ]

    -- what was told before is of other transactions
    old_apart : (key : Key) (to : ℕ) (effects : List Effect) → In (word_to key to (Decide effects)) (telling_of c.in_flight)
        → same_txn t key.txn ≡ false
    old_apart key to effects i = off_if (same_txn t key.txn) refl
      where
        off_if : (b : Bool) → same_txn t key.txn ≡ b → b ≡ false
        off_if true e = absurd (subst (In (word_to key to (Decide effects))) (silent key e)
            (kept_in (is_of key) (word_to key to (Decide effects)) (telling_of c.in_flight) i (key_itself key)))
        off_if false e = refl

    told_all : (key : Key) (to : ℕ) (effects : List Effect) → In (word_to key to (Decide effects)) (telling_of after.in_flight)
        → (e : Effect) → In e effects → IsToldOf after.servers key (held.parts key) e
    told_all key to effects i e j =
        elim (In-append (word_to key to (Decide effects)) (telling_of c.in_flight) (map (decision_word k t d) out)
        (subst (In (word_to key to (Decide effects))) telling_after i)) as (λ _. IsToldOf after.servers key (held.parts key) e) [
          | inl old ↦ told_then c.servers k s y at key (held.parts key) e
              (λ q. rows_stay key.txn (txn_apart t key.txn (old_apart key to effects old))) (held.told key to effects old e j)
          | inr new ↦
              let q = In-map (decision_word k t d) (word_to key to (Decide effects)) out new in
              let word : Decide effects ≡ Decide (told_effects d (q.0).0) = ap (λ (m : Told). m.word) q.1.1 in
              let is : effects ≡ told_effects d (q.0).0 = cc in
              subst (λ z. IsToldOf after.servers z (held.parts z) e) (sym (ap (λ (m : Told). m.key) q.1.1))
              (told_new q.0 q.1.0 e (subst (In e) is j))
        ]

    pub led_concluded : LedHolds after
    led_concluded = record {
      parts = held.parts;
      stages = stages_concluded;
      leading = λ z i m j. leading_waits c.lines after.lines z held.parts m (waits_still m.leader.session z.me)
          (each_after (λ a. In m a.leading → IsLeading c.lines a held.parts m) c.servers k y (λ a p q. held.leading a p m q)
          (leading_here m) z i j);
      ending = λ z i m j. ended_waits c.lines after.lines z held.parts m (waits_still m.session z.me)
          (each_after (λ a. In m a.ending → IsEnded c.lines a held.parts m) c.servers k y (λ a p q. held.ending a p m q)
          (ending_here m) z i j);
      ready = λ z i r j. each_after (λ a. In r a.prepared → find (is_part r.txn r.number) a.prepared ≡ Some r) c.servers k y
          (λ a p q. held.ready a p r q) (held.ready s here r) z i j;
      locks = λ z i. each_after (λ a. LocksHold a.rows (said_at a) (kept_at a)) c.servers k y held.locks locks_concluded z i;
      files = files_concluded;
      few = few;
      told = told_all;
    }
