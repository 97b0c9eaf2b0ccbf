use Rattle.std.proofs.Common.{ap, sym, ◌∙◌, subst}
use Rattle.std.specs.List.{filter}
use Rattle.fs_field.specs.Table.{is_live}
use Rattle.fs_server.specs.Rows.{AreRows, in_one_list}
use Rattle.fs_parcel.proofs.Both.{filter_with_rows}
use Rattle.fs_parcel.proofs.Both.{filtered_rows}
use Rattle.fs_server.proofs.all_live.AllLive.at.Goals as goal

pub returns : goal.returns
returns c =
    ap (λ rows. in_one_list rows c.live-2.result) c.live.ensures.rows
    ∙ ap (in_one_list (filter (is_live c.args.now c.args.skew) c.args.plain.now)) c.live-2.ensures.rows
    ∙ sym (filter_with_rows (is_live c.args.now c.args.skew) c.args.modes.now c.args.plain.now c.requires.ordered)

pub invariant_of-result : goal.invariant_of-result
invariant_of-result c =
    let rows : AreRows (in_one_list c.live.result c.live-2.result) = subst AreRows (sym (returns c)) (filtered_rows (is_live c.args.now c.args.skew) (in_one_list c.args.plain.now c.args.modes.now) c.requires) in
    (c.live.ensures.valid, (c.live-2.ensures.valid, rows))
