use Rattle.std.proofs.Common.{◌∙◌}
use Rattle.fs_moderows.specs.Answer.{answer_other}
use Rattle.fs_server.specs.Rows.{in_one_list}
use Rattle.fs_parcel.proofs.Both.{told_modes}
use Rattle.fs_server.proofs.Parts.{answer_other_modes}
use Rattle.fs_server.proofs.all_live.AllLive.answer_other.Goals as goal

pub returns : goal.returns
returns c =
    let plain = c.self.inside.plain in
    let modes = c.self.inside.modes in
    rw (← c.self.view_is) (c.answer_other.ensures ∙ told_modes (λ rows. answer_other c.args.selves.now rows c.args.session c.args.file.now c.args.m) plain modes c.self.invariant (answer_other_modes c.args.selves.now (in_one_list plain modes) c.args.session c.args.file.now c.args.m))
