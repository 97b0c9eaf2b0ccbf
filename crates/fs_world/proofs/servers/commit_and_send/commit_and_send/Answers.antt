use Rattle.std.proofs.Common.{rules}
use Rattle.std.proofs.lemmas.Result.{err_from_is_err_and}
use Rattle.fs_actor.specs.Actor.{is_full_up}
use Rattle.fs_world.proofs.Spending.{spent_link, refused_as}
use Rattle.fs_world.proofs.servers.commit_and_send.commit_and_send.Goals as goal

pub returns-in_err-put_up-clause-spends : goal.returns-in_err-put_up-clause-spends
returns-in_err-put_up-clause-spends c = record {
  given_up = search rules;
  only = λ counter e.
      let p = err_from_is_err_and c.from_residual.result c.from_residual.ensures.1 in
      let link = spent_link counter (is_full_up c.args.plan.out.send c.args.state.now.post) e in
      rw (p.1, p.2) (refused_as c.in_err-put_up.field-0.0 counter link.1 (c.in_err-put_up.ensures.only link.0));
}
