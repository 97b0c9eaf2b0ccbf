use Rattle.std.proofs.Common.{◌≡◌, true, ap, sym, subst, ◌∙◌, Err, arith}
use Rattle.std.proofs.lemmas.Result.{err_from_is_err_and}
use Rattle.fs_field.specs.Field.{file_of}
use Rattle.fs_msg.specs.declared.core_error.CoreError.TheVariants as errors
use Rattle.fs_server.specs.Asks.{ask_from}
use Rattle.fs_server.specs.Grants.{IsLent, with_leases}
use Rattle.fs_server.specs.Server.{is_mine}
use Rattle.fs_server.proofs.Lending.{none_lent, lent_none}
use Rattle.fs_server.proofs.Asking.{lendable, spent_item, same_blocker}
use Rattle.fs_server.proofs.asks.ask_items.Goals as goal

pub loop-field-init : goal.loop-field-init
loop-field-init c = record {
  asked = ap (λ rows. ask_from c.args.by c.args.items.now (with_leases rows c.args.at.now) c.new-2.result) c.new.ensures
      ∙ ap (λ s. ask_from c.args.by c.args.items.now s c.new-2.result) (none_lent c.args.at.now)
      ∙ ap (λ grants. ask_from c.args.by c.args.items.now c.args.at.now grants) c.new-2.ensures;
  lent = subst (λ rows. IsLent c.args.by rows c.args.at.now) (sym c.new.ensures) (lent_none c.args.by c.args.at.now c.requires.ready);
}

pub lend-requires-clause-table : goal.lend-requires-clause-table
lend-requires-clause-table c = lendable c.args.by c.loop-field-item.result.0 c.loop-field-item.result.1 c.kind_for-kind.result c.in-Granted.value c.loop-field.lent.rows c.args.at.now c.loop-field.invariant.lent c.kind_for-kind.ensures (sym c.in_ok-value.ensures ∙ c.in-Granted.is)

pub returns-in_err-lend-in-Granted-clause-spent : goal.returns-in_err-lend-in-Granted-clause-spent
returns-in_err-lend-in-Granted-clause-spent c counter h =
    let p = err_from_is_err_and c.from_residual-in_err-lend-in-Granted.result c.from_residual-in_err-lend-in-Granted.ensures.1 in
    let e : c.in_err-lend-in-Granted.field-0.0 ≡ errors.Spent counter = cc in
    let mine : is_mine c.args.at.now (file_of c.loop-field-item.result.0) ≡ true = ap (is_mine c.args.at.now) (sym c.file.ensures) ∙ sym c.is_mine.ensures ∙ c.if-not-is_mine.false in
    let q = c.lend.ensures.spent counter (c.in_err-lend-in-Granted.was ∙ ap Err e) in (
      q.0,
      spent_item c.args.by c.args.items.now c.loop-field.field-index c.loop-field-item.result c.kind_for-kind.result c.loop-field.lent.rows c.loop-field.lent.grants c.args.at.now c.in-Granted.value (omega arith) c.loop-field-item.is c.kind_for-kind.ensures c.loop-field.invariant.lent mine
          (sym c.in_ok-value.ensures ∙ c.in-Granted.is) c.loop-field.invariant.asked q.1,
    )

pub returns-in-Wait-clause-recalls : goal.returns-in-Wait-clause-recalls
returns-in-Wait-clause-recalls c = same_blocker c.args.by c.loop-field-item.result.0 c.kind_for-kind.result c.loop-field.lent.rows c.args.at.now c.in-Wait.blocker c.requires.ready c.loop-field.invariant.lent (sym c.in_ok-value.ensures ∙ c.in-Wait.is)
