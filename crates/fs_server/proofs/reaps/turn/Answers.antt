use Rattle.std.proofs.Common.{◌≡◌, ◌≤◌, ◌^◌, [], ap, subst, ◌∙◌, Err, rules}
use Rattle.std.proofs.lemmas.Result.{err_from_is_err_and}
use Rattle.fs_msg.specs.declared.core_error.CoreError.TheVariants as errors
use Rattle.fs_record.specs.Opens.{open_files, are_apart}
use Rattle.fs_record.proofs.OpenFiles.{open_apart}
use Rattle.fs_server.specs.Reaps.{lapsed_among, reap_from}
use Rattle.fs_server.proofs.Losing.{turned, turn_spent}
use Rattle.fs_server.proofs.reaps.turn.Goals as goal

pub lose_all-requires-clause-apart : goal.lose_all-requires-clause-apart
lose_all-requires-clause-apart c =
    let files : c.as_slice.result.now ≡ open_files c.args.at.now.records = search rules in
    ap are_apart files ∙ open_apart c.args.at.now.records

pub returns-in_err-lost-clause-spent : goal.returns-in_err-lost-clause-spent
returns-in_err-lost-clause-spent c counter h =
    let files : c.as_slice.result.now ≡ open_files c.args.at.now.records = search rules in
    let p = err_from_is_err_and c.from_residual-in_err-lost.result c.from_residual-in_err-lost.ensures.1 in
    let e : c.in_err-lost.field-0.0 ≡ errors.Spent counter = cc in
    let q = c.lose_all.ensures.spent counter (c.in_err-lost.was ∙ ap Err e) in
    turn_spent c.args.at.now counter c.requires.server.given q.0 (subst (λ fs. 2 ^ 64 ≤ (reap_from (lapsed_among c.args.at.now fs) c.args.at.now [] []).server.reaps) files q.1)

pub returns-clause-step : goal.returns-clause-step
returns-clause-step c =
    let files : c.as_slice.result.now ≡ open_files c.args.at.now.records = search rules in
    c.in_ok-told.ensures.step ∙ turned c.in_ok-lost.lost c.args.at.now (c.in_ok-lost.ensures.lost ∙ ap (λ fs. reap_from (lapsed_among c.args.at.now fs) c.args.at.now [] []) files)
