use Rattle.std.proofs.Common.{ap, sym, ◌∙◌, slice_set}
use Rattle.fs_field.specs.Table.{has_no, renewed_row}
use Rattle.fs_rows.proofs.ByNumber.{placed_any, at_number, changed_there, none_change, unrenewed}
use Rattle.fs_rows.proofs.numbered.renew.Goals as goal

pub returns-in-Some-clause-found : goal.returns-in-Some-clause-found
returns-in-Some-clause-found c = placed_any (has_no c.args.no) c.args.rows.now.items _ (rw c.deref.ensures.value at c.in-Some.ensures)

pub returns-in-Some-clause-rows : goal.returns-in-Some-clause-rows
returns-in-Some-clause-rows c =
    let there = at_number c.args.no c.args.rows.now.items c.in-Some.at c.index_mut.result.now (rw c.deref.ensures.value at c.in-Some.ensures) in
    ap (slice_set c.args.rows.now.items c.in-Some.at) (c.renew_one.ensures ∙ ap (renewed_row c.args.no c.args.until) c.index_mut.ensures.value)
    ∙ changed_there (renewed_row c.args.no c.args.until) c.args.no c.args.rows.now.items c.in-Some.at c.index_mut.result.now (unrenewed c.args.no c.args.until) c.requires there.0 there.1

pub returns-in-None-clause-found : goal.returns-in-None-clause-found
returns-in-None-clause-found c = placed_any (has_no c.args.no) c.args.rows.now.items _ (rw c.deref.ensures.value at c.in-None.ensures)

pub returns-in-None-clause-rows : goal.returns-in-None-clause-rows
returns-in-None-clause-rows c = sym (none_change (renewed_row c.args.no c.args.until) c.args.no c.args.rows.now.items (unrenewed c.args.no c.args.until) (sym (returns-in-None-clause-found c)))
