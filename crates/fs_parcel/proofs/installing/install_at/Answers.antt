use Rattle.std.specs.List.{filter}
use Rattle.fs_field.specs.Table.{is_live}
use Rattle.fs_parcel.specs.Rows.{AreRows, in_one_list}
use Rattle.fs_parcel.proofs.Both.{after, filtered_rows, takes_plain, takes_modes}
use Rattle.fs_parcel.proofs.Formed.{each_records, fitting, formed_piece}
use Rattle.fs_parcel.proofs.Installed.{all_rows, came_absent}
use Rattle.fs_parcel.proofs.OneList.{both_rows}
use Rattle.fs_parcel.proofs.installing.install_at.Goals as goal

pub begin_take-requires : goal.begin_take-requires
begin_take-requires c =
    let f = fitting c.args.records.now (filter (is_live c.args.now c.args.skew) (in_one_list c.args.rows.now c.args.modes.now)) c.args.map.now c.args.me c.args.p c.requires.fits in
    formed_piece c.args.p f.form

pub put_in-requires-clause-absent : goal.put_in-requires-clause-absent
put_in-requires-clause-absent c =
    came_absent _ _ _ _ c.args.p (fitting c.args.records.now (filter (is_live c.args.now c.args.skew) (in_one_list c.args.rows.now c.args.modes.now)) c.args.map.now c.args.me c.args.p c.requires.fits)

pub put_in-requires-clause-modes : goal.put_in-requires-clause-modes
put_in-requires-clause-modes c =
    let live = is_live c.args.now c.args.skew in
    let plain = c.args.rows.now in
    let modes = c.args.modes.now in
    let f = fitting c.args.records.now (filter live (in_one_list plain modes)) c.args.map.now c.args.me c.args.p c.requires.fits in
    let rows : AreRows (in_one_list plain modes) = both_rows plain modes c.all.ensures.valid c.all-2.ensures.valid c.requires.numbers in
    let a : AreRows (after live c.args.p.rows plain modes) =
    all_rows _ _ _ _ c.args.p f (filtered_rows live (in_one_list plain modes) rows) in
    takes_modes live c.args.p.rows plain modes (c.all.ensures.valid, (c.all-2.ensures.valid, rows)) a

pub put_in-requires-clause-plain : goal.put_in-requires-clause-plain
put_in-requires-clause-plain c =
    let live = is_live c.args.now c.args.skew in
    let plain = c.args.rows.now in
    let modes = c.args.modes.now in
    let f = fitting c.args.records.now (filter live (in_one_list plain modes)) c.args.map.now c.args.me c.args.p c.requires.fits in
    let rows : AreRows (in_one_list plain modes) = both_rows plain modes c.all.ensures.valid c.all-2.ensures.valid c.requires.numbers in
    let a : AreRows (after live c.args.p.rows plain modes) =
    all_rows _ _ _ _ c.args.p f (filtered_rows live (in_one_list plain modes) rows) in
    takes_plain live c.args.p.rows plain modes (c.all.ensures.valid, (c.all-2.ensures.valid, rows)) a

pub put_in-requires-clause-records : goal.put_in-requires-clause-records
put_in-requires-clause-records c =
    let f = fitting c.args.records.now (filter (is_live c.args.now c.args.skew) (in_one_list c.args.rows.now c.args.modes.now)) c.args.map.now c.args.me c.args.p c.requires.fits in
    each_records c.args.p c.requires.nexts f.form
