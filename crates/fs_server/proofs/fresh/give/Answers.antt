use Rattle.std.proofs.Common.{◌≡◌, Some, sym, refl, ◌∙◌}
use Rattle.fs_ident.specs.Ident.{child}
use Rattle.fs_field.specs.Table.{borne_numbers}
use Rattle.fs_record.specs.Fresh.{fresh_number}
use Rattle.fs_rows.specs.Granted.{with_rows}
use Rattle.fs_server.proofs.Giving.{no_end, given_number, givable, given_fresh, new_gift}
use Rattle.fs_server.proofs.fresh.give.Goals as goal

pub unreachable-requires : goal.unreachable-requires
unreachable-requires c = no_end c.args.dir.now c.args.id (fresh_number c.args.at.now.records c.args.dir.now (borne_numbers c.args.dir.now (with_rows c.args.lent.rows c.args.at.now.rows))) c.requires.fresh (sym c.last_number.ensures ∙ c.in_default.is)

pub lend-requires-clause-table : goal.lend-requires-clause-table
lend-requires-clause-table c =
    let o = fresh_number c.args.at.now.records c.args.dir.now (borne_numbers c.args.dir.now (with_rows c.args.lent.rows c.args.at.now.rows)) in
    let n : (o ≡ Some c.in-Some.k) × (c.args.id ≡ child c.args.dir.now c.in-Some.k) = given_number c.args.dir.now c.args.id o c.in-Some.k c.requires.fresh (sym c.last_number.ensures ∙ c.in-Some.is) in
    givable c.args.by c.args.dir.now c.args.id o c.in-Some.k c.args.lent.rows c.args.at.now c.requires.so_far refl n.0 n.1

pub returns-clause-asked : goal.returns-clause-asked
returns-clause-asked c =
    let o = fresh_number c.args.at.now.records c.args.dir.now (borne_numbers c.args.dir.now (with_rows c.args.lent.rows c.args.at.now.rows)) in
    let n : (o ≡ Some c.in-Some.k) × (c.args.id ≡ child c.args.dir.now c.in-Some.k) = given_number c.args.dir.now c.args.id o c.in-Some.k c.requires.fresh (sym c.last_number.ensures ∙ c.in-Some.is) in
    given_fresh c.args.by c.args.dir.now c.args.id c.into_file.result c.in_ok-copy.field-0 c.in-Some.k o c.args.lent c.lend.new.lent c.args.at.now n.0 n.1 c.into_file.ensures c.in_ok-copy.ensures c.in_ok-lend.ensures.rows c.in_ok-lend.ensures.grants

pub returns-clause-gift : goal.returns-clause-gift
returns-clause-gift c =
    let o = fresh_number c.args.at.now.records c.args.dir.now (borne_numbers c.args.dir.now (with_rows c.args.lent.rows c.args.at.now.rows)) in
    let n : (o ≡ Some c.in-Some.k) × (c.args.id ≡ child c.args.dir.now c.in-Some.k) = given_number c.args.dir.now c.args.id o c.in-Some.k c.requires.fresh (sym c.last_number.ensures ∙ c.in-Some.is) in
    new_gift c.args.dir.now c.in_ok-copy.field-0 c.in-Some.k (with_rows c.args.lent.rows c.args.at.now.rows) c.args.at.now n.0 c.in_ok-copy.ensures
