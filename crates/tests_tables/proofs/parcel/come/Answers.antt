use Rattle.std.proofs.Common.{subst}
use Rattle.fs_record.specs.Moving.{AreNumbersLeft}
use Rattle.fs_parcel.proofs.Formed.{fitting}
use Rattle.fs_parcel.proofs.Installed.{all_rows}
use Rattle.fs_parcel.proofs.Moved.{came_both}
use Rattle.fs_parcel.specs.Rows.{in_one_list}
use Rattle.std.proofs.Common.{sym, ◌∙◌}
use Rattle.tests_tables.proofs.parcel.come.Goals as goal

pub install-requires-clause-nexts : goal.install-requires-clause-nexts
install-requires-clause-nexts c =
    let each = c.are_records.ensures c.if-not-are_records.false in
    subst AreNumbersLeft c.as_slice.ensures (λ e i. ((each e i).least, (each e i).most))

pub returns : goal.returns
returns c =
    let s = c.args.s.now in
    let f = fitting s.records (in_one_list s.rows s.modes) s.map s.me c.args.p (sym c.in_ok-fits.ensures ∙ c.if-not-branch.false) in
    rw (c.in_ok-install.ensures.rows, c.in_ok-install.ensures.modes)
    (came_both c.args.p.rows s.rows s.modes (c.all.ensures.valid, (c.all-2.ensures.valid, c.requires)) (all_rows _ _ _ _ c.args.p f c.requires))
