use Rattle.std.proofs.Common.{false, ap, ◌∙◌}
use Rattle.fs_modes.specs.declared.modes.Modes.{Modes}
use Rattle.fs_modes.specs.Modes.{opposing}
use Rattle.fs_model.specs.declared.reply.Reply.TheVariants.{Opened, Sharing}
use Rattle.fs_view.specs.Modes.{others_before}
use Rattle.fs_view.specs.Script.{ask_selves, modes_on}
use Rattle.fs_view.specs.Told.{modes_listed}
use Rattle.fs_view.specs.View.{along, known_by, given_by}
use Rattle.fs_view.proofs.ModeItems.{others_along, as_well}
use Rattle.fs_view.proofs.walk.open_free.Goals as goal

pub returns : goal.returns
returns c =
    let v = c.args.view.now in
    let known = known_by v c.args.now in
    let file = c.args.file.now in
    let six = modes_listed (opposing c.args.modes) in
    let opened = c.in_ok-opened.ensures ∙ ap (λ (on : Modes). along v c.args.now (ask_selves (modes_listed on) file Opened)) c.modes_on-on.ensures in
    as_well c.opposed.result _ _ (ap (others_before known Sharing six file false) opened ∙ others_along known (given_by v c.args.now) Sharing six file false (ask_selves (modes_listed (modes_on c.args.own.now c.args.modes)) file Opened)) c.opposed.ensures
