use Rattle.std.proofs.Common.{◌≡◌, ap, ◌∙◌, Err, arith}
use Rattle.std.proofs.lemmas.Result.{err_from_is_err_and}
use Rattle.fs_msg.specs.declared.core_error.CoreError.TheVariants as errors
use Rattle.fs_server.proofs.Losing.{losing_at, losing_on, losing_on_spent}
use Rattle.fs_server.proofs.reaps.lose_all.Goals as goal

pub returns-in_err-lose_on-clause-spent : goal.returns-in_err-lose_on-clause-spent
returns-in_err-lose_on-clause-spent c counter h =
    let p = err_from_is_err_and c.from_residual.result c.from_residual.ensures.1 in
    let e : c.in_err-lose_on.field-0.0 ≡ errors.Spent counter = cc in
    let q = c.lose_on.ensures.spent counter (c.in_err-lose_on.was ∙ ap Err e) in
    (q.0, losing_on_spent c.args.at.now c.args.files.now c.file-item.result _ c.loop-file.lost (losing_at c.args.at.now c.args.files.now c.loop-file.file-index c.file-item.result c.loop-file.lost (omega arith) c.file-item.is c.loop-file.invariant) _ q.1)

pub loop-file-preserved : goal.loop-file-preserved
loop-file-preserved c = losing_on c.args.at.now c.args.files.now c.file-item.result _ c.loop-file.lost (losing_at c.args.at.now c.args.files.now c.loop-file.file-index c.file-item.result c.loop-file.lost (omega arith) c.file-item.is c.loop-file.invariant) c.lose_on.new.lost c.in_ok-lose_on.ensures.lost c.in_ok-lose_on.ensures.can
