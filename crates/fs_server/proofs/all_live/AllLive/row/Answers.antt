use Rattle.std.proofs.Common.{ap, sym, ◌∙◌}
use Rattle.std.specs.List.{find}
use Rattle.fs_field.specs.Table.{has_no}
use Rattle.fs_server.specs.Rows.{in_one_list}
use Rattle.fs_parcel.proofs.Both.{plain_part, modes_part}
use Rattle.fs_server.proofs.Parts.{named_plain, named_modes}
use Rattle.fs_server.proofs.all_live.AllLive.row.Goals as goal

pub returns-in-Some : goal.returns-in-Some
returns-in-Some c =
    let plain = c.self.inside.plain in
    let modes = c.self.inside.modes in
    let t = c.self.invariant in
    rw (← c.self.view_is) (named_plain c.args.no (in_one_list plain modes) plain c.in-Some.row.now t.1.1.ordered (plain_part plain modes t.0 t.1.0 t.1.1.ordered) c.in-Some.ensures)

pub returns-in-None : goal.returns-in-None
returns-in-None c =
    let plain = c.self.inside.plain in
    let modes = c.self.inside.modes in
    let t = c.self.invariant in
    rw (← c.self.view_is) (c.row-in-None.ensures ∙ ap (find (has_no c.args.no)) (sym (modes_part plain modes t.0 t.1.0 t.1.1.ordered)) ∙ named_modes c.args.no (in_one_list plain modes) plain (plain_part plain modes t.0 t.1.0 t.1.1.ordered) c.in-None.ensures)
