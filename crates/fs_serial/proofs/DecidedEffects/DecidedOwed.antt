-- Each session for which something is decided and not applied yet is owed an answer.
use Rattle.std.proofs.Common.{◌≡◌, ◌==◌, List, [], filter, not, true, refl, ap, ◌∙◌, subst}
use Rattle.std.specs.Prelude.{Some, None, slice_get}
use Rattle.fs_ident.specs.In.{In}
use Rattle.fs_ident.specs.declared.actor.Session.{Session}
use Rattle.fs_ident.specs.declared.actor.TxnNo.{TxnNo}
use Rattle.fs_ident.proofs.Passing.{found}
use Rattle.fs_ident.proofs.Same.{itself}
use Rattle.fs_ident.proofs.Standing.{In-front, In-got, In-mapped}
use Rattle.fs_field.specs.Table.{same_txn}
use Rattle.fs_msg.specs.declared.answer.Answer.{Answer}
use Rattle.fs_msg.specs.declared.answer.Answer.TheVariants as answer
use Rattle.fs_server.specs.declared.state.Server.{Server}
use Rattle.fs_txn.specs.Grants.{Decided}
use Rattle.fs_txn.specs.Leading.{ending_of}
use Rattle.fs_txn.specs.declared.leading.Ending.{Ending}
use Rattle.fs_txn.proofs.Keys.{kept_in}
use Rattle.fs_serial.specs.Cluster.{Cluster}
use Rattle.fs_serial.specs.Exchange.{due, is_recall}
use Rattle.fs_serial.specs.Owed.{ends_in, owed_at, owed_to}
use Rattle.fs_serial.specs.Words.{decided_in, ended_in, ending_at}
use Rattle.fs_serial.proofs.DecidedEffects.Deciding.{IsDeciding, deciding_in}
use Rattle.fs_serial.proofs.Lists.Traffic.{messages}
use Rattle.fs_serial.proofs.Transactions.Tables.{In_all}

-- a server has it among those that are decided
stands_at : (servers : List Server) (txn : TxnNo) (x : Ending) → ended_in servers txn ≡ Some x
    → (s : Server) × (In s servers × In x s.ending)
stands_at servers txn x e =
    elim (slice_get servers txn.server) as
    (λ o. slice_get servers txn.server ≡ o → ending_of txn (ending_at o) ≡ Some x → (s : Server) × (In s servers × In x s.ending)) [
      | None ↦ λ f g. absurd (cc g)
      | Some s ↦ λ f g. (s, (In-got servers txn.server s f, (found (λ (y : Ending). same_txn y.txn txn) s.ending x g).0))
    ] refl e

pub decided_owed : (c : Cluster) (d : Decided) → In d (decided_in c) → due (ends_in c d.by).down ≡ [] → ⊥
decided_owed c d i none =
    let q = deciding_in c.servers c.in_flight d i in
    let p : IsDeciding c.servers q.0 d = q.1.1 in
    let x : Ending = p.ending in
    let a : Answer = answer.Led x.end in
    let at = stands_at c.servers p.message.txn x p.ended in
    let its = λ (z : Ending). z.session.0 == d.by.0 in
    let own : (x.session.0 == d.by.0) ≡ true = ap (λ (y : Session). x.session.0 == y.0) p.session ∙ itself x.session.0 in
    let here : In a (owed_at d.by at.0) =
    In-mapped (λ (z : Ending). answer.Led z.end) x (filter its (at.0).ending) (kept_in its x (at.0).ending at.1.1 own) in
    let all : In a (owed_to d.by c.servers) = In_all (owed_at d.by) a at.0 c.servers at.1.0 here in
    let among : In a (due (ends_in c d.by).down) =
    kept_in (λ z. not (is_recall z)) a (ends_in c d.by).down
    (In-front a (owed_to d.by c.servers) (messages (c.lines d.by).down) all) refl in
    absurd (subst (In a) none among)
