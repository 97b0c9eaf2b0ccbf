use Rattle.std.proofs.Common.{◌≡◌, false, ap, sym, ◌∙◌, slice_set}
use Rattle.std.specs.List.{list_any}
use Rattle.fs_field.specs.Table.{has_no, is_unlocked, locked_row}
use Rattle.fs_rows.proofs.ByNumber.{placed_any, at_number, changed_there, none_change, only_there, no_passes, unlocked_still, not_unlocked}
use Rattle.fs_rows.proofs.numbered.lock.Goals as goal

pub returns-in-Some-clause-found : goal.returns-in-Some-clause-found
returns-in-Some-clause-found c =
    let there = at_number c.args.no c.args.rows.now.items c.in-Some.at c.index_mut.result.now (rw c.deref.ensures.value at c.in-Some.ensures) in
    c.lock_one.ensures.found ∙ ap (is_unlocked c.args.no) c.index_mut.ensures.value
    ∙ sym (only_there (is_unlocked c.args.no) c.args.no c.args.rows.now.items c.in-Some.at c.index_mut.result.now (not_unlocked c.args.no) c.requires there.0 there.1)

pub returns-in-Some-clause-rows : goal.returns-in-Some-clause-rows
returns-in-Some-clause-rows c =
    let there = at_number c.args.no c.args.rows.now.items c.in-Some.at c.index_mut.result.now (rw c.deref.ensures.value at c.in-Some.ensures) in
    ap (slice_set c.args.rows.now.items c.in-Some.at) (c.lock_one.ensures.row ∙ ap (locked_row c.args.no c.args.txn) c.index_mut.ensures.value)
    ∙ changed_there (locked_row c.args.no c.args.txn) c.args.no c.args.rows.now.items c.in-Some.at c.index_mut.result.now (unlocked_still c.args.no c.args.txn) c.requires there.0 there.1

pub returns-in-None-clause-found : goal.returns-in-None-clause-found
returns-in-None-clause-found c =
    let none : list_any (has_no c.args.no) c.args.rows.now.items ≡ false = sym (placed_any (has_no c.args.no) c.args.rows.now.items _ (rw c.deref.ensures.value at c.in-None.ensures)) in
    sym (no_passes (is_unlocked c.args.no) c.args.no c.args.rows.now.items (not_unlocked c.args.no) none)

pub returns-in-None-clause-rows : goal.returns-in-None-clause-rows
returns-in-None-clause-rows c =
    let none : list_any (has_no c.args.no) c.args.rows.now.items ≡ false = sym (placed_any (has_no c.args.no) c.args.rows.now.items _ (rw c.deref.ensures.value at c.in-None.ensures)) in
    sym (none_change (locked_row c.args.no c.args.txn) c.args.no c.args.rows.now.items (unlocked_still c.args.no c.args.txn) none)
