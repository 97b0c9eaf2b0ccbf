use Rattle.std.proofs.Common.{◌≡◌, ap, ◌∙◌, subst}
use Rattle.std.specs.Prelude.{OnOk}
use Rattle.fs_rows.specs.Granted.{with_rows}
use Rattle.fs_rows.proofs.Goes.{all_live}
use Rattle.fs_parcel.specs.Parcel.{fits}
use Rattle.fs_parcel.specs.Rows.{in_one_list, rows_off_modes, rows_on_modes}
use Rattle.fs_parcel.proofs.installing.install.Goals as goal

pub install_at-requires-clause-fits : goal.install_at-requires-clause-fits
install_at-requires-clause-fits c =
    ap (λ rows. fits c.args.records.now rows c.args.map.now c.args.me c.args.p) (all_live (in_one_list c.args.rows.now c.args.modes.now)) ∙ c.requires.fits

pub returns-clause-rows : goal.returns-clause-rows
returns-clause-rows c = subst (λ old. OnOk c.install_at.result (c.install_at.new.rows ≡ with_rows (rows_off_modes c.args.p.rows) old)) (all_live c.args.rows.now) c.install_at.ensures.rows

pub returns-clause-modes : goal.returns-clause-modes
returns-clause-modes c = subst (λ old. OnOk c.install_at.result (c.install_at.new.modes ≡ with_rows (rows_on_modes c.args.p.rows) old)) (all_live c.args.modes.now) c.install_at.ensures.modes
