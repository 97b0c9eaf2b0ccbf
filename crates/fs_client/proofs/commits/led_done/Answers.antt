use Rattle.std.proofs.Common.{ap, ◌∙◌}
use Rattle.fs_view.specs.View.{View}
use Rattle.fs_client.proofs.AdmittedFront.{led_done_is}
use Rattle.fs_client.specs.Client.{begun, with_led_freed}
use Rattle.fs_client.proofs.commits.led_done.Goals as goal

pub returns-clause-ok : goal.returns-clause-ok
returns-clause-ok c =
    led_done_is c.args.now c.args.effects c.args.client.now c.led_freed.new.client
    (c.led_freed.ensures ∙ ap (λ (v : View). with_led_freed (begun c.args.now (record c.args.client.now { view = v }))) c.in_ok-admit.ensures.ok)
