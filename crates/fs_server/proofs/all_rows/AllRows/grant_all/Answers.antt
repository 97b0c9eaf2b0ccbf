use Rattle.std.proofs.Common.{◌≡◌, sym, subst}
use Rattle.std.specs.List.{filter}
use Rattle.fs_field.specs.Table.{is_live}
use Rattle.fs_rows.specs.Granted.{with_rows}
use Rattle.fs_server.specs.Rows.{AreRows, in_one_list}
use Rattle.fs_parcel.proofs.Both.{AreBoth, after, takes_plain, takes_modes, takes_all, taken, either_both, ok_both}
use Rattle.fs_server.proofs.all_rows.AllRows.grant_all.Goals as goal

pub grant_all-requires-clause-table : goal.grant_all-requires-clause-table
grant_all-requires-clause-table c =
    let live = is_live c.args.now c.args.skew in
    let rows : AreRows (after live c.args.rows c.self.inside.plain c.self.inside.modes) = subst (λ all. AreRows (with_rows c.args.rows (filter live all))) (sym c.self.view_is) c.requires in
    rw c.in_ok-parts.ensures.modes (takes_modes live c.args.rows c.self.inside.plain c.self.inside.modes c.self.invariant rows)

pub grant_all-requires-clause-beside : goal.grant_all-requires-clause-beside
grant_all-requires-clause-beside c =
    let live = is_live c.args.now c.args.skew in
    let rows : AreRows (after live c.args.rows c.self.inside.plain c.self.inside.modes) = subst (λ all. AreRows (with_rows c.args.rows (filter live all))) (sym c.self.view_is) c.requires in
    rw c.in_ok-parts.ensures.plain (takes_plain live c.args.rows c.self.inside.plain c.self.inside.modes c.self.invariant rows)

pub invariant_of-self : goal.invariant_of-self
invariant_of-self c =
    let live = is_live c.args.now c.args.skew in
    let rows : AreRows (after live c.args.rows c.self.inside.plain c.self.inside.modes) = subst (λ all. AreRows (with_rows c.args.rows (filter live all))) (sym c.self.view_is) c.requires in
    let later : AreBoth (with_rows c.in_ok-parts.parts.plain (filter live c.self.inside.plain)) (with_rows c.in_ok-parts.parts.modes (filter live c.self.inside.modes)) = rw (c.in_ok-parts.ensures.plain, c.in_ok-parts.ensures.modes) (taken live c.args.rows c.self.inside.plain c.self.inside.modes c.self.invariant rows) in
    either_both c.grant_all.result c.self.inside.plain c.self.inside.modes _ _ c.grant_all.new.beside c.grant_all.new.self c.self.invariant later c.grant_all.ensures.ok c.grant_all.ensures.err c.grant_all.ensures.ok_beside c.grant_all.ensures.err_beside

pub returns-clause-ok : goal.returns-clause-ok
returns-clause-ok c =
    let live = is_live c.args.now c.args.skew in
    let rows : AreRows (after live c.args.rows c.self.inside.plain c.self.inside.modes) = subst (λ all. AreRows (with_rows c.args.rows (filter live all))) (sym c.self.view_is) c.requires in
    let all : in_one_list (with_rows c.in_ok-parts.parts.plain (filter live c.self.inside.plain)) (with_rows c.in_ok-parts.parts.modes (filter live c.self.inside.modes)) ≡ after live c.args.rows c.self.inside.plain c.self.inside.modes = rw (c.in_ok-parts.ensures.plain, c.in_ok-parts.ensures.modes) (takes_all live c.args.rows c.self.inside.plain c.self.inside.modes c.self.invariant rows) in
    rw (← c.self.view_is) (ok_both c.grant_all.result _ _ c.grant_all.new.beside c.grant_all.new.self _ all c.grant_all.ensures.ok c.grant_all.ensures.ok_beside)
