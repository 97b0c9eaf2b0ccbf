use Rattle.std.proofs.Common.{◌≡◌, true, sym, subst}
use Rattle.std.specs.List.{filter}
use Rattle.fs_field.specs.Table.{is_live}
use Rattle.fs_parcel.specs.Parcel.{fits}
use Rattle.fs_server.specs.Rows.{AreRows, in_one_list}
use Rattle.fs_parcel.proofs.Both.{after, either_both, filtered_rows, ok_both, taken, takes_all}
use Rattle.fs_parcel.proofs.Formed.{fitting}
use Rattle.fs_parcel.proofs.Installed.{all_rows}
use Rattle.fs_server.proofs.all_rows.AllRows.install.Goals as goal

pub install_at-requires-clause-fits : goal.install_at-requires-clause-fits
install_at-requires-clause-fits c = subst (λ rows. fits c.args.records.now (filter (is_live c.args.now c.args.skew) rows) c.args.map.now c.args.me c.args.p ≡ true) (sym c.self.view_is) c.requires.fits

pub invariant_of-self : goal.invariant_of-self
invariant_of-self c =
    let live = is_live c.args.now c.args.skew in
    let plain = c.self.inside.plain in
    let modes = c.self.inside.modes in
    let fit : fits c.args.records.now (filter live (in_one_list plain modes)) c.args.map.now c.args.me c.args.p ≡ true = subst (λ rows. fits c.args.records.now (filter live rows) c.args.map.now c.args.me c.args.p ≡ true) (sym c.self.view_is) c.requires.fits in
    let rows : AreRows (after live c.args.p.rows plain modes) = all_rows _ _ _ _ c.args.p (fitting c.args.records.now (filter live (in_one_list plain modes)) c.args.map.now c.args.me c.args.p fit) (filtered_rows live (in_one_list plain modes) c.self.invariant.1.1) in
    either_both c.install_at.result plain modes _ _ c.install_at.new.rows c.install_at.new.modes c.self.invariant (taken live c.args.p.rows plain modes c.self.invariant rows) c.install_at.ensures.modes c.install_at.ensures.err_modes c.install_at.ensures.rows c.install_at.ensures.err_rows

pub returns-clause-rows : goal.returns-clause-rows
returns-clause-rows c =
    let live = is_live c.args.now c.args.skew in
    let plain = c.self.inside.plain in
    let modes = c.self.inside.modes in
    let fit : fits c.args.records.now (filter live (in_one_list plain modes)) c.args.map.now c.args.me c.args.p ≡ true = subst (λ rows. fits c.args.records.now (filter live rows) c.args.map.now c.args.me c.args.p ≡ true) (sym c.self.view_is) c.requires.fits in
    let rows : AreRows (after live c.args.p.rows plain modes) = all_rows _ _ _ _ c.args.p (fitting c.args.records.now (filter live (in_one_list plain modes)) c.args.map.now c.args.me c.args.p fit) (filtered_rows live (in_one_list plain modes) c.self.invariant.1.1) in
    rw (← c.self.view_is) (ok_both c.install_at.result _ _ c.install_at.new.rows c.install_at.new.modes _ (takes_all live c.args.p.rows plain modes c.self.invariant rows) c.install_at.ensures.modes c.install_at.ensures.rows)
