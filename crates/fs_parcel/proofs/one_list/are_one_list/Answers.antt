use Rattle.std.proofs.Common.{◌≡◌, ◌∙◌, List}
use Rattle.fs_field.specs.declared.row.Row.{Row}
use Rattle.fs_parcel.proofs.OneList.{all_given, one_list}
use Rattle.fs_parcel.proofs.one_list.are_one_list.Goals as goal

pub returns : goal.returns
returns c =
    let plain : List Row = c.args.rows.now in
    let modes : List Row = c.args.modes.now in
    let copied : c.in_ok-of_modes.of_modes ≡ modes = c.in_ok-of_modes.ensures ∙ (rw (c.in_ok-all.ensures.prefix, c.in_ok-all.ensures.given, c.all.ensures.same) (all_given modes)) in
    c.are_new.ensures ∙ (rw (copied, c.all-2.ensures.same) (one_list plain modes c.all-2.ensures.valid.ordered))
