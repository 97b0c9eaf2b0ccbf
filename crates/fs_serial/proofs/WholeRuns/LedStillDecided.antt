-- What is decided and on its way stays decided where servers know of each transaction of it, for the same session.
use Rattle.std.proofs.Common.{◌≡◌, List, [], ◌∷◌, ◌++◌, refl, sym, ap, ap₂, ◌∙◌, inl, inr}
use Rattle.std.specs.Prelude.{Some}
use Rattle.fs_ident.specs.In.{In}
use Rattle.fs_ident.specs.declared.actor.TxnNo.{TxnNo}
use Rattle.fs_msg.specs.declared.peer_msg.PeerMsg.{PeerMsg}
use Rattle.fs_msg.specs.declared.peer_msg.PeerMsg.TheVariants as peer
use Rattle.fs_server.specs.declared.state.Server.{Server}
use Rattle.fs_txn.specs.Grants.{Decided}
use Rattle.fs_txn.specs.declared.leading.Ending.{Ending}
use Rattle.fs_serial.specs.Cluster.{Cluster, InFlight}
use Rattle.fs_serial.specs.Leading.{LedHolds}
use Rattle.fs_serial.specs.Words.{decided_among, decided_at, decided_by, ended_in}
use Rattle.fs_serial.proofs.Transactions.AwaitedWords.{decide_awaits}

-- the transactions that servers know of then were ended for the same sessions before
abbrev pub SameSessions : List Server → List Server → Type 0
SameSessions ss ts = (txn : TxnNo) (y : Ending) → ended_in ts txn ≡ Some y
    → (x : Ending) × ((ended_in ss txn ≡ Some x) × (x.session ≡ y.session))

module _ (ss : List Server) (after : Cluster) (led : LedHolds after) (same : SameSessions ss after.servers) where
  one_still : (f : InFlight) → In f after.in_flight → decided_by after.servers f.message ≡ decided_by ss f.message
  one_still f i = by f.message refl
    where
      by : (m : PeerMsg) → f.message ≡ m → decided_by after.servers m ≡ decided_by ss m
      by (peer.Decide m) e =
          let a = decide_awaits after led f i m e in
          let b = same m.txn a.ending a.is in
          ap (λ o. decided_at o m.effects) a.is
          ∙ ap (λ by. decided_at (Some (let z : Ending = record (a.ending) { session = by } in z)) m.effects) (sym b.1.1)
          ∙ sym (ap (λ o. decided_at o m.effects) b.1.0)
      by m e = refl

  all_still : (fs : List InFlight) → ((f : InFlight) → In f fs → In f after.in_flight)
      → decided_among after.servers fs ≡ decided_among ss fs
  all_still [] h = refl
  all_still (f ∷ fs) h =
      ap₂ (λ (a b : List Decided). a ++ b) (one_still f (h f (inl refl))) (all_still fs (λ g i. h g (inr i)))

  pub still_decided : decided_among after.servers after.in_flight ≡ decided_among ss after.in_flight
  still_decided = all_still after.in_flight (λ f i. i)
