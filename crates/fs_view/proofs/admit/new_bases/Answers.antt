use Rattle.std.proofs.Common.{◌+◌, List, length, take, ap, ◌∙◌}
use Rattle.std.specs.Prelude.{Option}
use Rattle.std.proofs.lemmas.List.{length_push}
use Rattle.fs_field.specs.declared.value.Value.{Value}
use Rattle.fs_view.specs.Admit.{with_bases}
use Rattle.fs_view.proofs.Bases.{one_more}
use Rattle.fs_view.proofs.admit.new_bases.Goals as goal

pub loop-kept-preserved : goal.loop-kept-preserved
loop-kept-preserved c =
    let pushed = c.in_ok-push.ensures.ok in
    let e = one_more c.args.session c.args.log.now c.args.leases.now c.loop-kept.kept-index c.kept-item.result c.loop-kept.bases c.in_ok-new_base.field-0 c.loop-kept-test.true c.kept-item.is c.loop-kept.invariant.each c.loop-kept.invariant.after c.in_ok-new_base.ensures in
    record {
      each = ap length pushed ∙ (length_push c.loop-kept.bases c.in_ok-new_base.field-0 ∙ ap (λ n. n + 1) c.loop-kept.invariant.each);
      after = ap (λ (bs : List (Option Value)). with_bases c.args.log.now (take (c.loop-kept.kept-index + 1) c.args.leases.now) bs) pushed ∙ e;
    }
