use Rattle.std.proofs.Common.{◌≡◌, ap, sym, ◌∙◌}
use Rattle.fs_field.specs.Table.{is_ordered}
use Rattle.fs_field.proofs.Order.{ordered_filter}
use Rattle.fs_rows.specs.Moving.{is_on_given, rows_given}
use Rattle.fs_parcel.specs.Rows.{in_one_list}
use Rattle.fs_parcel.proofs.Both.{filter_with_rows}
use Rattle.fs_parcel.proofs.packing.filled.Goals as goal

pub merged-requires-clause-plain : goal.merged-requires-clause-plain
merged-requires-clause-plain c = ap is_ordered c.in_ok-plain.ensures ∙ ordered_filter (is_on_given c.args.piece.prefix c.args.piece.given) c.args.rows.now c.requires.plain.ordered

pub merged-requires-clause-modes : goal.merged-requires-clause-modes
merged-requires-clause-modes c = ap is_ordered c.in_ok-of_modes.ensures ∙ ordered_filter (is_on_given c.args.piece.prefix c.args.piece.given) c.args.modes.now c.requires.modes.ordered

pub merged-requires-clause-both : goal.merged-requires-clause-both
merged-requires-clause-both c =
    let test = is_on_given c.args.piece.prefix c.args.piece.given in
    let all : in_one_list c.in_ok-plain.plain c.in_ok-of_modes.of_modes ≡ rows_given c.args.piece.prefix c.args.piece.given (in_one_list c.args.rows.now c.args.modes.now) =
    ap (λ rows. in_one_list rows c.in_ok-of_modes.of_modes) c.in_ok-plain.ensures
    ∙ ap (in_one_list (rows_given c.args.piece.prefix c.args.piece.given c.args.rows.now)) c.in_ok-of_modes.ensures
    ∙ sym (filter_with_rows test c.args.modes.now c.args.rows.now c.requires.numbers)
    in
    ap is_ordered all ∙ ordered_filter test (in_one_list c.args.rows.now c.args.modes.now) c.requires.numbers

pub returns-clause-rows : goal.returns-clause-rows
returns-clause-rows c =
    c.in_ok-merged.ensures
    ∙ ap (λ rows. in_one_list rows c.in_ok-of_modes.of_modes) c.in_ok-plain.ensures
    ∙ ap (in_one_list (rows_given c.args.piece.prefix c.args.piece.given c.args.rows.now)) c.in_ok-of_modes.ensures
    ∙ sym (filter_with_rows (is_on_given c.args.piece.prefix c.args.piece.given) c.args.modes.now c.args.rows.now c.requires.numbers)
