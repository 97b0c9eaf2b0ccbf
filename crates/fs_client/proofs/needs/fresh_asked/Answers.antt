use Rattle.std.proofs.Common.{◌∷◌, drop, sym, ap, ◌+◌, ◌∙◌}
use Rattle.std.specs.Prelude.{Some}
use Rattle.fs_field.specs.declared.asked.Need.{Need}
use Rattle.fs_client.specs.Acts.{fresh_asked}
use Rattle.fs_client.proofs.Needed.{fresh_step}
use Rattle.fs_client.proofs.needs.fresh_asked.Goals as goal

pub returns-in-Fresh : goal.returns-in-Fresh
returns-in-Fresh c =
    ap Some c.in_ok-copy.ensures
    ∙ sym (c.loop-need.invariant ∙ (fresh_step c.args.needs.now c.loop-need.need-index c.need-item.result c.loop-need-test.true c.need-item.is ∙ ap (λ (n : Need). fresh_asked (n ∷ drop (c.loop-need.need-index + 1) c.args.needs.now)) c.in-Fresh.is))
