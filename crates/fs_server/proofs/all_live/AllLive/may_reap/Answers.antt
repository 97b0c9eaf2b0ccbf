use Rattle.std.proofs.Common.{◌∙◌}
use Rattle.fs_moderows.specs.Answer.{reap_blocker}
use Rattle.fs_server.specs.Rows.{in_one_list}
use Rattle.fs_parcel.proofs.Both.{told_modes}
use Rattle.fs_server.proofs.Parts.{reap_modes}
use Rattle.fs_server.proofs.all_live.AllLive.may_reap.Goals as goal

pub returns : goal.returns
returns c =
    let plain = c.self.inside.plain in
    let modes = c.self.inside.modes in
    rw (← c.self.view_is) (c.may_reap.ensures ∙ told_modes (λ rows. reap_blocker c.args.selves.now rows c.args.session c.args.file.now) plain modes c.self.invariant (reap_modes c.args.selves.now (in_one_list plain modes) c.args.session c.args.file.now))
