-- The effects that messages tell are those that are decided and not applied yet, since each message on its way is awaited.
use Rattle.std.proofs.Common.{◌≡◌, List, [], ◌∷◌, ◌++◌, refl, sym, ap, ap₂, ◌∙◌, inl, inr}
use Rattle.std.proofs.lemmas.List.{map-append}
use Rattle.fs_field.specs.declared.effect.Effect.{Effect}
use Rattle.fs_ident.specs.In.{In}
use Rattle.fs_msg.specs.declared.peer_msg.PeerMsg.{PeerMsg}
use Rattle.fs_msg.specs.declared.peer_msg.PeerMsg.TheVariants as peer
use Rattle.fs_record.specs.Records.{RecordMap}
use Rattle.fs_txn.specs.Decided.{held_with}
use Rattle.fs_txn.specs.Grants.{Decided, effects_in}
use Rattle.fs_serial.specs.Cluster.{Cluster, InFlight, parcels_of}
use Rattle.fs_serial.specs.Joined.{effects_by, effects_on_way, records_of_all}
use Rattle.fs_serial.specs.Leading.{LedHolds}
use Rattle.fs_serial.specs.Runs.{held_by}
use Rattle.fs_serial.specs.Words.{decided_among, decided_at, decided_by, decided_in}
use Rattle.fs_serial.proofs.LedOperations.LedSteps.{effects_of_sent}
use Rattle.fs_serial.proofs.Transactions.AwaitedWords.{decide_awaits}

-- what all hold together, in the words of what is decided
abbrev pub held_seen : Cluster → RecordMap
held_seen c = held_with (effects_in (decided_in c)) (records_of_all c.servers (parcels_of c.in_flight))

module _ (c : Cluster) (led : LedHolds c) where
  one_told : (f : InFlight) → In f c.in_flight → effects_by f.message ≡ effects_in (decided_by c.servers f.message)
  one_told f i = by f.message refl
    where
      by : (m : PeerMsg) → f.message ≡ m → effects_by m ≡ effects_in (decided_by c.servers m)
      by (peer.Decide m) e =
          let a = decide_awaits c led f i m e in
          sym (ap (λ o. effects_in (decided_at o m.effects)) a.is ∙ effects_of_sent a.ending.session m.effects)
      by m e = refl

  pub all_told : (fs : List InFlight) → ((f : InFlight) → In f fs → In f c.in_flight)
      → effects_on_way fs ≡ effects_in (decided_among c.servers fs)
  all_told [] h = refl
  all_told (f ∷ fs) h =
      ap₂ (λ (a b : List Effect). a ++ b) (one_told f (h f (inl refl))) (all_told fs (λ g i. h g (inr i)))
      ∙ sym (map-append (λ (d : Decided). d.effect) (decided_by c.servers f.message) (decided_among c.servers fs))

  pub held_same : held_by c ≡ held_seen c
  held_same = ap (λ es. held_with es (records_of_all c.servers (parcels_of c.in_flight))) (all_told c.in_flight (λ f i. i))
