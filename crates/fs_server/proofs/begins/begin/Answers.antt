use Rattle.std.proofs.Common.{◌≡◌, ap, ap₂, sym, ◌∙◌, Some}
use Rattle.fs_msg.specs.declared.core_error.Counter.TheVariants.{Transactions}
use Rattle.fs_txn.specs.Numbers.{next_txn}
use Rattle.fs_server.proofs.Beginning.{begun_spent}
use Rattle.fs_server.proofs.begins.begin.Goals as goal

pub returns-in-None-clause-spent : goal.returns-in-None-clause-spent
returns-in-None-clause-spent c counter h =
    let q : Transactions ≡ counter = cc h in
    begun_spent c.args.mode c.args.by c.args.m.now c.args.at.now c.requires.ready
    (ap₂ next_txn (sym c.me.ensures) (sym c.txns.ensures) ∙ sym c.next_txn.ensures ∙ c.in-None.is) ∙ ap Some q
