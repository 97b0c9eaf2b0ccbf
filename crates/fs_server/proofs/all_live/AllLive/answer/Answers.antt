use Rattle.std.proofs.Common.{◌∙◌}
use Rattle.fs_rows.specs.Answer.{answer}
use Rattle.fs_server.specs.Rows.{in_one_list}
use Rattle.fs_parcel.proofs.Both.{told_plain}
use Rattle.fs_server.proofs.Parts.{answer_off}
use Rattle.fs_server.proofs.all_live.AllLive.answer.Goals as goal

pub returns : goal.returns
returns c =
    let plain = c.self.inside.plain in
    let modes = c.self.inside.modes in
    rw (← c.self.view_is) (c.answer.ensures ∙ told_plain (λ rows. answer rows c.args.session c.args.field.now c.args.kind) plain modes c.self.invariant (answer_off (in_one_list plain modes) c.args.session c.args.field.now c.args.kind c.requires))
