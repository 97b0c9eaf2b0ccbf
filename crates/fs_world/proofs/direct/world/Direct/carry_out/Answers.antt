use Rattle.std.proofs.Common.{◌≡◌, ap, sym, ◌∙◌}
use Rattle.std.proofs.lemmas.Result.{IfOk-weaker, on_ok_weaker, on_err_weaker}
use Rattle.fs_model.specs.Namespace.{NodeMap}
use Rattle.fs_world.specs.declared.direct.world.Direct.{Direct}
use Rattle.fs_world.specs.Direct.{Answer, answer, answer_of, with_answer}
use Rattle.fs_world.proofs.Creates.{plain_answer}
use Rattle.fs_world.proofs.direct.world.Direct.carry_out.Goals as goal

pub returns-in_ok-copy-in_default : goal.returns-in_ok-copy-in_default
returns-in_ok-copy-in_default c =
    let w : Direct = c.args.self.now in
    let copy = c.in_ok-copy-in_default.field-0 in
    let e : answer_of w.space w.next c.args.by copy ≡ answer w.space w.next c.args.by c.args.op.now =
    ap (answer_of w.space w.next c.args.by) c.in_ok-copy-in_default.ensures
    ∙ sym (plain_answer w.space w.next c.args.by c.args.op.now c.in_default.not-Create) in
    record {
      op = IfOk-weaker c.ask.result _ _ (λ d h. h ∙ ap (λ (a : Answer). a.op) e) c.ask.ensures.op;
      reply = IfOk-weaker c.ask.result _ _ (λ d h. h ∙ ap (λ (a : Answer). a.reply) e) c.ask.ensures.reply;
      twin = IfOk-weaker c.ask.result _ _ (λ d h. h ∙ ap (λ (a : Answer). a.reply) e) c.ask.ensures.twin;
      world = on_ok_weaker c.ask.result (λ h. ap (λ (m : NodeMap). let v : Direct = record w { space = m } in v) h ∙ ap (with_answer w) e)
          c.ask.ensures.space;
      err = on_err_weaker c.ask.result (λ h. ap (λ (m : NodeMap). let v : Direct = record w { space = m } in v) h) c.ask.ensures.err;
    }
