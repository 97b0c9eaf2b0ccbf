use Rattle.std.proofs.Common.{false, ap, ◌∙◌}
use Rattle.fs_modes.specs.Modes.{opposing}
use Rattle.fs_model.specs.declared.reply.Reply.TheVariants.{Opened, Sharing}
use Rattle.fs_view.specs.Modes.{others_before}
use Rattle.fs_view.specs.Script.{answer}
use Rattle.fs_view.specs.Told.{modes_listed}
use Rattle.fs_view.specs.View.{known_by, given_by}
use Rattle.fs_view.proofs.ModeItems.{others_along, as_well}
use Rattle.fs_view.proofs.walk.open_blind.Goals as goal

pub returns : goal.returns
returns c =
    let known = known_by c.args.view.now c.args.now in
    let six = modes_listed (opposing c.args.modes) in
    as_well c.opposed.result _ _ (ap (others_before known Sharing six c.args.file.now false) c.answer-opened.ensures ∙ others_along known (given_by c.args.view.now c.args.now) Sharing six c.args.file.now false (answer Opened)) c.opposed.ensures
