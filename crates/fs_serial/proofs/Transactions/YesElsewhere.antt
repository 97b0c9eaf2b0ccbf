-- Parts of a transaction that said Yes at another server than the leader: each is ready there.
use Rattle.std.proofs.Common.{◌≡◌, ◌==◌, ◌<◌, ℕ, Bool, true, false, length}
use Rattle.std.proofs.Common.{sym, ap, ap₂, ◌∙◌, subst, inl, inr}
use Rattle.std.specs.Prelude.{Option, Some, slice_get}
use Rattle.std.proofs.lemmas.Option.{slice_get_within}
use Rattle.fs_ident.specs.In.{In}
use Rattle.fs_ident.specs.declared.actor.TxnNo.{TxnNo}
use Rattle.fs_ident.proofs.Same.{itself}
use Rattle.fs_ident.proofs.Standing.{In-got}
use Rattle.fs_field.specs.declared.used.Part.{Part}
use Rattle.fs_field.specs.declared.vote.Vote.TheVariants.{Yes}
use Rattle.fs_server.specs.declared.state.Server.{Server}
use Rattle.fs_txn.specs.Leading.{elsewhere, ending_of, leading_of, stage_by, stage_in}
use Rattle.fs_txn.specs.Stages.{IsHeldAt, IsStage, Key, Wanted, told_of}
use Rattle.fs_txn.specs.Stages.Stage.{Counted}
use Rattle.fs_txn.specs.declared.leading.Leading.{Leading}
use Rattle.fs_txn.proofs.Keys.{kept_in}
use Rattle.fs_serial.specs.Cluster.{Cluster}
use Rattle.fs_serial.specs.Leading.{IsLeading, LedHolds}
use Rattle.fs_serial.specs.Words.{ending_at, key_of, leading_at, prepared_in, stage_of_key, telling_of}
use Rattle.fs_serial.proofs.DecidedEffects.ToldParts.{HasReady, has_ready}
use Rattle.fs_serial.proofs.Transactions.Decisions.{IsTold, is_told, told, untold}
use Rattle.fs_serial.proofs.Transactions.Desks.{was_at}
use Rattle.fs_serial.proofs.Transactions.OwnersOfLocks.{in_range}

-- the part is one of the transaction, and that server has it ready
pub record IsReadyElsewhere (c : Cluster) (parts : Key → Wanted) (l : Leading) (n : ℕ × ℕ) : Type 0 where
  pub part : Part
  pub asked : slice_get l.leader.parts n.0 ≡ Some part
  pub wanted : parts (key_of l.leader.txn n.0) ≡ (let w : Wanted = record { session = l.leader.session; part = part } in w)
  pub vote : slice_get l.leader.votes n.0 ≡ Some (Some Yes)
  pub place : slice_get l.at n.0 ≡ Some n.1
  pub away : (n.1 == l.leader.txn.server) ≡ false
  pub ready : HasReady c.servers (key_of l.leader.txn n.0) n.1 (parts (key_of l.leader.txn n.0))
  pub there : n.1 < length c.servers

module _ (k : ℕ) (c : Cluster) (s : Server) (at : slice_get c.servers k ≡ Some s) (me : s.me ≡ k) (held : LedHolds c)
    (l : Leading) (among : In l s.leading) where
  abbrev t : TxnNo
  t = l.leader.txn

  leads : IsLeading c.lines s held.parts l
  leads = held.leading s (In-got c.servers k s at) l among

  mine : (t.server == k) ≡ true
  mine = ap (λ j. t.server == j) (sym (leads.own ∙ me)) ∙ itself t.server

  stage_now : (n : ℕ) → stage_of_key c.servers (key_of t n) ≡ stage_by (slice_get l.at n) (slice_get l.leader.votes n)
  stage_now n =
      ap (λ o. stage_in n (leading_of t (leading_at o)) (ending_of t (ending_at o))) (was_at c.servers k s s at t.server mine)
      ∙ ap (λ o. stage_in n o (ending_of t s.ending)) leads.one

  ready_at_place : (n : ℕ × ℕ) → slice_get l.leader.votes n.0 ≡ Some (Some Yes) → slice_get l.at n.0 ≡ Some n.1
      → (n.1 == s.me) ≡ false → prepared_in c.servers n.1 (key_of t n.0) ≡ Some (held.parts (key_of t n.0))
  ready_at_place n v a f =
      let key : Key = key_of t n.0 in
      let stage : stage_of_key c.servers key ≡ Counted n.1 Yes = stage_now n.0 ∙ ap₂ stage_by a v in
      let away : (n.1 == t.server) ≡ false = ap (λ j. n.1 == j) leads.own ∙ f in
      let q : IsStage key (held.parts key) (Counted n.1 Yes) (λ j. prepared_in c.servers j key) (told_of key (telling_of c.in_flight)) =
      subst (λ z. IsStage key (held.parts key) z (λ j. prepared_in c.servers j key) (told_of key (telling_of c.in_flight))) stage
      (held.stages key) in
      alone key n.1 (held.parts key) (λ j. prepared_in c.servers j key) (n.1 == t.server) away q.1
    where
      alone : (key : Key) (place : ℕ) (w : Wanted) (prepared : ℕ → Option Wanted) (b : Bool) → b ≡ false
          → IsHeldAt b place w prepared → prepared place ≡ Some w
      alone key place w prepared true e h = absurd (cc)
      alone key place w prepared false e h = h.here

  -- the server of a part that said Yes elsewhere has it ready
  pub ready_there : (n : ℕ × ℕ) → slice_get l.leader.votes n.0 ≡ Some (Some Yes) → slice_get l.at n.0 ≡ Some n.1
      → (n.1 == s.me) ≡ false → IsReadyElsewhere c held.parts l n
  ready_there n v a f =
      let part = in_range l.leader.votes l.leader.parts n.0 (Some Yes) leads.votes v in
      let ready : HasReady c.servers (key_of t n.0) n.1 (held.parts (key_of t n.0)) =
      has_ready c.servers (key_of t n.0) n.1 (held.parts (key_of t n.0)) (ready_at_place n v a f) in
      record {
        part = part.0;
        asked = part.1;
        wanted = leads.wanted n.0 part.0 part.1;
        vote = v;
        place = a;
        away = ap (λ j. n.1 == j) leads.own ∙ f;
        ready = ready;
        there = slice_get_within c.servers n.1 ready.server ready.there;
      }

  -- each part that is told is
  pub yes_elsewhere : (n : ℕ × ℕ) → In n (elsewhere s.me l) → IsReadyElsewhere c held.parts l n
  yes_elsewhere n i = of_part (is_told s.me n.0 l)
    where
      of_part : IsTold s.me n.0 (elsewhere s.me l) (slice_get l.leader.votes n.0) (slice_get l.at n.0) → IsReadyElsewhere c held.parts l n
      of_part (told p q v a f) = elim (subst (In n) q (kept_in (λ (x : ℕ × ℕ). x.0 == n.0) n (elsewhere s.me l) i (itself n.0))) as
          (λ _. IsReadyElsewhere c held.parts l n) [
            | inl e ↦
                let same : p ≡ n.1 = ap (λ (x : ℕ × ℕ). x.1) (sym e) in
                ready_there n v (subst (λ j. slice_get l.at n.0 ≡ Some j) same a) (subst (λ j. (j == s.me) ≡ false) same f)
            | inr z ↦ absurd z
          ]
      of_part (untold q f) = absurd (subst (In n) q (kept_in (λ (x : ℕ × ℕ). x.0 == n.0) n (elsewhere s.me l) i (itself n.0)))
