use Rattle.std.proofs.Common.{sym, ◌∙◌}
use Rattle.fs_field.specs.Table.{has_no}
use Rattle.fs_rows.proofs.ByNumber.{placed_any, at_number, gone_there, none_go}
use Rattle.fs_rows.proofs.numbered.release.Goals as goal

pub returns-in-Some-clause-found : goal.returns-in-Some-clause-found
returns-in-Some-clause-found c = placed_any (has_no c.args.no) c.args.rows.now.items _ (rw c.deref.ensures.value at c.in-Some.ensures)

pub returns-in-Some-clause-rows : goal.returns-in-Some-clause-rows
returns-in-Some-clause-rows c =
    let there = at_number c.args.no c.args.rows.now.items c.in-Some.at c.remove.result (rw c.deref.ensures.value at c.in-Some.ensures) in
    c.remove.ensures.items ∙ gone_there c.args.no c.args.rows.now.items c.in-Some.at c.remove.result c.requires there.0 there.1

pub returns-in-None-clause-found : goal.returns-in-None-clause-found
returns-in-None-clause-found c = placed_any (has_no c.args.no) c.args.rows.now.items _ (rw c.deref.ensures.value at c.in-None.ensures)

pub returns-in-None-clause-rows : goal.returns-in-None-clause-rows
returns-in-None-clause-rows c = sym (none_go c.args.no c.args.rows.now.items (sym (returns-in-None-clause-found c)))
