-- Whatever locks rows of a session at a server is its one transaction. A session that asks for an operation to be led has none.
use Rattle.std.proofs.Common.{◌≡◌, ◌+◌, ◌≤◌, ◌⊎◌, ℕ, List, [], ◌∷◌, length, map, refl, subst, inl, inr, arith}
use Rattle.std.specs.Prelude.{Some, slice_get}
use Rattle.fs_ident.specs.In.{In}
use Rattle.fs_ident.specs.declared.actor.Session.{Session}
use Rattle.fs_ident.specs.declared.actor.TxnNo.{TxnNo}
use Rattle.fs_ident.proofs.Passing.{found}
use Rattle.fs_ident.proofs.Standing.{In-got, In-mapped}
use Rattle.fs_msg.specs.declared.client_msg.ClientMsg.{ClientMsg}
use Rattle.fs_msg.specs.declared.client_msg.ClientMsg.TheVariants.{Lead}
use Rattle.fs_msg.specs.declared.lead.Lead.{Lead as ToLead}
use Rattle.fs_server.specs.declared.event.ServerEvent.TheVariants.{FromClient}
use Rattle.fs_server.specs.declared.state.Server.{Server}
use Rattle.fs_txn.specs.Locks.{IsKept, IsOf}
use Rattle.fs_txn.specs.declared.leading.Leading.{Leading}
use Rattle.fs_serial.specs.Cluster.{Cluster, IsThere, is_with}
use Rattle.fs_serial.specs.Leading.{LedHolds}
use Rattle.fs_serial.specs.Words.{kept_at, said_at}
use Rattle.fs_serial.proofs.Transactions.LedPrepared.{OneEach}
use Rattle.fs_serial.proofs.Transactions.OneOfSession.{leads_its, one_txn, txns_of, with_asked}
use Rattle.fs_serial.proofs.Transactions.OwnersOfLocks.{Its, kept_txn, said_txn}

pub some_there : {X : Type 0} (x : X) (xs : List X) → In x xs → 1 ≤ length xs
some_there x [] i = absurd i
some_there x (y ∷ ys) i = omega arith

module _ (c : Cluster) (h : LedHolds c) (k : ℕ) (s : Server) (at : slice_get c.servers k ≡ Some s) (one : OneEach c) where
  owned : (by : Session) (u : TxnNo) → IsOf (said_at s) u by ⊎ IsKept (kept_at s) u by → In u (txns_of by c.servers)
  owned by u (inl o) = subst (λ t. Its c h t by) o.its (subst (Its c h o.agreed.key.txn) o.session (said_txn c h s k at o.agreed o.among))
  owned by u (inr q) = subst (λ t. Its c h t by) q.its (subst (Its c h q.commit.txn) q.session (kept_txn c h s k at q.commit q.among))

  pub only_its : (l : Leading) → In l s.leading → (u : TxnNo) → IsOf (said_at s) u l.leader.session ⊎ IsKept (kept_at s) u l.leader.session
      → u ≡ l.leader.txn
  only_its l i u o =
      one_txn c h l.leader.session (one l.leader.session) u l.leader.txn (owned l.leader.session u o)
      (leads_its l.leader.session c.servers s (In-got c.servers k s at) l i refl)

  pub none_its : (by : Session) (m : ToLead) → IsThere k (FromClient by (Lead m)) c → (u : TxnNo)
      → IsOf (said_at s) u by ⊎ IsKept (kept_at s) u by → ⊥
  none_its by m there u o =
      let up : List ClientMsg = map (λ (x : ℕ × ClientMsg). x.1) (c.lines by).up in
      let asks : In (Lead m) up =
      In-mapped (λ (x : ℕ × ClientMsg). x.1) (k, Lead m) (c.lines by).up (found (is_with k) (c.lines by).up (k, Lead m) there).0 in
      let asked : 1 ≤ length up = some_there (Lead m) up asks in
      let has : 1 ≤ length (txns_of by c.servers) = some_there u (txns_of by c.servers) (owned by u o) in
      let few : length (txns_of by c.servers) + length up ≤ 1 = with_asked c h by (one by) in
      absurd (omega (arith, asked, has, few))
