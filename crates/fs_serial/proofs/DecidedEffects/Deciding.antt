-- What is decided stands in a message on its way, of a transaction that its leader has decided.
use Rattle.std.proofs.Common.{◌≡◌, ℕ, List, refl, sym, ap, ◌∙◌, subst, inl, inr}
use Rattle.std.specs.Prelude.{Option, Some, None}
use Rattle.fs_ident.specs.In.{In}
use Rattle.fs_ident.specs.declared.actor.Session.{Session}
use Rattle.fs_ident.proofs.Standing.{In-map, In-mapped}
use Rattle.fs_field.specs.declared.effect.Effect.{Effect}
use Rattle.fs_field.specs.declared.vote.Vote.{Vote}
use Rattle.fs_msg.specs.declared.decide.Decide.{Decide as ToDecide}
use Rattle.fs_msg.specs.declared.peer_msg.PeerMsg.{PeerMsg}
use Rattle.fs_msg.specs.declared.peer_msg.PeerMsg.TheVariants as peer
use Rattle.fs_server.specs.declared.state.Server.{Server}
use Rattle.fs_txn.specs.Decided.{IsDecided}
use Rattle.fs_txn.specs.Grants.{Decided}
use Rattle.fs_txn.specs.Leading.{stage_by, stage_in}
use Rattle.fs_txn.specs.Stages.{Key, Told, word_to}
use Rattle.fs_txn.specs.Stages.Stage.{Unknown, Awaited}
use Rattle.fs_txn.specs.Stages.Word.{Decide}
use Rattle.fs_txn.specs.declared.leading.Ending.{Ending}
use Rattle.fs_serial.specs.Cluster.{Cluster, InFlight}
use Rattle.fs_serial.specs.Decided.{decided_for}
use Rattle.fs_serial.specs.Leading.{LedHolds}
use Rattle.fs_serial.specs.Words.{decided_among, decided_at, decided_by, desks_of, ended_in, key_of, telling_of, told_in, told_with}
use Rattle.fs_serial.proofs.Replies.Knowing.{In-filter_map}
use Rattle.fs_serial.proofs.Transactions.Desks.{IsDecidingWord, deciding_word}
use Rattle.fs_serial.proofs.Transactions.OwnersOfLocks.{IsEndedAt, IsLedAt, ended_session, stands_in}
use Rattle.fs_serial.proofs.Transactions.Tables.{In_some}

-- the message tells a part to do it
pub record IsDeciding (servers : List Server) (f : InFlight) (d : Decided) : Type 0 where
  pub message : ToDecide
  pub is : f.message ≡ peer.Decide message
  pub ending : Ending
  pub ended : ended_in servers message.txn ≡ Some ending
  pub session : d.by ≡ ending.session
  pub effect : In d.effect message.effects

pub deciding_by : (servers : List Server) (f : InFlight) (d : Decided) → In d (decided_by servers f.message) → IsDeciding servers f d
deciding_by servers f d i = by_message f.message refl i
  where
    by_message : (m : PeerMsg) → f.message ≡ m → In d (decided_by servers m) → IsDeciding servers f d
    by_message (peer.Decide m) e j =
        elim (ended_in servers m.txn) as (λ o. ended_in servers m.txn ≡ o → In d (decided_at o m.effects) → IsDeciding servers f d) [
          | None ↦ λ g k. absurd k
          | Some x ↦ λ g k.
              let q = In-map (λ (y : Effect). let z : Decided = record { by = x.session; effect = y } in z) d m.effects k in
              record {
                message = m;
                is = e;
                ending = x;
                ended = g;
                session = ap (λ (z : Decided). z.by) q.1.1;
                effect = subst (λ y. In y m.effects) (sym (ap (λ (z : Decided). z.effect) q.1.1)) q.1.0;
              }
        ] refl j
    by_message m e j = absurd j

-- all that the message tells
pub told_by : (servers : List Server) (f : InFlight) (d : Decided) (p : IsDeciding servers f d)
    → decided_by servers f.message ≡ decided_for p.ending.session p.message.effects
told_by servers f d p = ap (decided_by servers) p.is ∙ ap (λ o. decided_at o p.message.effects) p.ended

pub among_told : (servers : List Server) (f : InFlight) (d : Decided) → IsDeciding servers f d → In d (decided_by servers f.message)
among_told servers f d p = subst (In d) (sym (told_by servers f d p))
    (subst (λ (x : Decided). In x (decided_for p.ending.session p.message.effects))
    (ap (λ (y : Session). let z : Decided = record { by = y; effect = d.effect } in z) (sym p.session))
    (In-mapped (λ (e : Effect). let z : Decided = record { by = p.ending.session; effect = e } in z) d.effect p.message.effects p.effect))

pub deciding_in : (servers : List Server) (fs : List InFlight) (d : Decided) → In d (decided_among servers fs)
    → (f : InFlight) × (In f fs × IsDeciding servers f d)
deciding_in servers fs d i =
    let q = In_some (λ (f : InFlight). decided_by servers f.message) d fs i in
    (q.0, (q.1.0, deciding_by servers q.0 d q.1.1))

-- ## Its word

pub not_awaited : (o : Option ℕ) (v : Option (Option Vote)) (at : ℕ) → stage_by o v ≡ Awaited at → ⊥
not_awaited None v at e = absurd (cc)
not_awaited (Some k) None at e = absurd (cc)
not_awaited (Some k) (Some None) at e = absurd (cc)
not_awaited (Some k) (Some (Some v)) at e = absurd (cc)

module _ (c : Cluster) (led : LedHolds c) (d : Decided) (f : InFlight) (there : In f c.in_flight) (p : IsDeciding c.servers f d) where
  abbrev pub key : Key
  key = key_of p.message.txn p.message.number

  abbrev pub word : Told
  word = told_with f.from f.to (key, Decide p.message.effects)

  -- its message is this word
  pub told_as : told_in f ≡ Some word
  told_as = ap (λ m. told_in (let x : InFlight = record { from = f.from; to = f.to; message = m } in x)) p.is

  among : In word (telling_of c.in_flight)
  among = In-filter_map told_in f word c.in_flight there told_as

  pub w : IsDecidingWord (desks_of led.parts c) key word
  w = deciding_word (desks_of led.parts c) key word refl led.stages among p.message.effects refl

  pub told : In (word_to key w.at (Decide w.effects)) (telling_of c.in_flight)
  told = subst (λ x. In x (telling_of c.in_flight)) w.is among

  pub its_effects : p.message.effects ≡ w.effects
  its_effects = let same : Decide p.message.effects ≡ Decide w.effects = ap (λ (x : Told). x.word) w.is in cc

  pub told_effect : In d.effect w.effects
  told_effect = subst (In d.effect) its_effects p.effect

  pub is_decided : IsDecided d.effect
  is_decided = (led.told key w.at w.effects told d.effect told_effect).decided

  -- its leader has decided
  not_led : IsLedAt c.servers key → ⊥
  not_led q = not_awaited _ _ w.at (sym (ap (λ o. stage_in key.part o (ended_in c.servers key.txn)) q.led) ∙ w.stage)

  pub its_ending : IsEndedAt c.servers key
  its_ending =
      elim (stands_in c.servers key (λ e. let wrong : Awaited w.at ≡ Unknown = sym w.stage ∙ e in absurd (cc))) as
      (λ _. IsEndedAt c.servers key) [
        | inl q ↦ absurd (not_led q)
        | inr q ↦ q
      ]

  pub its_session : (led.parts key).session ≡ d.by
  its_session =
      let got : Some its_ending.ending ≡ Some p.ending = sym its_ending.ended ∙ p.ended in
      let same : its_ending.ending ≡ p.ending = cc in
      ended_session c led key its_ending ∙ ap (λ (x : Ending). x.session) same ∙ sym p.session
