use Rattle.std.proofs.Common.{ap, ap₂, sym, ◌∙◌, subst}
use Rattle.fs_field.specs.Table.{is_live}
use Rattle.fs_record.specs.Moving.{AreNumbersLeft}
use Rattle.fs_parcel.specs.Parcel.{fits}
use Rattle.fs_parcel.specs.Rows.{in_one_list}
use Rattle.fs_parcel.proofs.Both.{filtered_both}
use Rattle.fs_parcel.proofs.Moved.{passed_both}
use Rattle.tests_tables.proofs.parcel.fitting.come_at.Goals as goal

pub fits_at-requires-clause-numbers : goal.fits_at-requires-clause-numbers
fits_at-requires-clause-numbers c =
    let s = c.args.s.now in
    rw (c.live-off.ensures.rows, c.live-on.ensures.rows)
    (passed_both (is_live c.args.now 10) s.rows s.modes (c.all.ensures.valid, (c.all-2.ensures.valid, c.requires))).ordered

pub install_at-requires-clause-fits : goal.install_at-requires-clause-fits
install_at-requires-clause-fits c =
    let s = c.args.s.now in
    ap (λ rows. fits s.records rows s.map s.me c.args.p)
    (sym (filtered_both (is_live c.args.now 10) s.rows s.modes (c.all.ensures.valid, (c.all-2.ensures.valid, c.requires)))
    ∙ ap₂ in_one_list (sym c.live-off.ensures.rows) (sym c.live-on.ensures.rows))
    ∙ sym c.in_ok-fits_at.ensures
    ∙ c.if-not-branch.false

pub install_at-requires-clause-nexts : goal.install_at-requires-clause-nexts
install_at-requires-clause-nexts c =
    let each = c.are_records.ensures c.if-not-are_records.false in
    subst AreNumbersLeft c.as_slice.ensures (λ e i. ((each e i).least, (each e i).most))
