use Rattle.std.proofs.Common.{List, ap, ◌∙◌}
use Rattle.fs_modes.specs.declared.modes.Mode.{Mode}
use Rattle.fs_view.specs.Modes.{selves_before}
use Rattle.fs_view.specs.Told.{modes_listed}
use Rattle.fs_view.specs.View.{known_by, given_by}
use Rattle.fs_view.proofs.ModeItems.{selves_along, as_well}
use Rattle.fs_view.proofs.walk.turned.Goals as goal

pub returns : goal.returns
returns c =
    let known = known_by c.args.view.now c.args.now in
    let file = c.args.file.now in
    let six = modes_listed c.args.modes in
    let modes = c.deref.ensures.value ∙ c.in_ok-turned.ensures in
    as_well c.selves.result _ _ (ap (λ (ms : List Mode). selves_before known ms file c.answer-rest.result) modes ∙ (ap (selves_before known six file) c.answer-rest.ensures ∙ selves_along known (given_by c.args.view.now c.args.now) six file c.args.reply)) c.selves.ensures
