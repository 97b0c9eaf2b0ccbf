use Rattle.std.proofs.Common.{◌==◌, ◌&&◌, ◌∙◌}
use Rattle.std.specs.List.{list_any}
use Rattle.fs_field.specs.Field.{same_field}
use Rattle.fs_field.specs.declared.row.Row.{Row}
use Rattle.fs_server.specs.Rows.{in_one_list}
use Rattle.fs_parcel.proofs.Both.{told_plain}
use Rattle.fs_server.proofs.Parts.{has_on_off}
use Rattle.fs_server.proofs.all_live.AllLive.has_on.Goals as goal

pub returns : goal.returns
returns c =
    let plain = c.self.inside.plain in
    let modes = c.self.inside.modes in
    rw (← c.self.view_is) (c.has_on.ensures ∙ told_plain (list_any (λ (r : Row). same_field r.field c.args.field.now && (r.session.0 == c.args.session.0))) plain modes c.self.invariant (has_on_off (in_one_list plain modes) c.args.field.now c.args.session c.requires))
