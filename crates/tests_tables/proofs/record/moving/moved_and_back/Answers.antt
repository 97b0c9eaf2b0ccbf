use Rattle.std.proofs.Common.{◌∙◌, ap, ap₂, sym, subst}
use Rattle.fs_record.specs.Moving.{AreEachRecords, are_absent, are_distinct}
use Rattle.fs_record.proofs.Returning.{given_each, given_distinct, given_absent}
use Rattle.tests_tables.proofs.record.moving.moved_and_back.Goals as goal

pub join-done-requires-clause-records : goal.join-done-requires-clause-records
join-done-requires-clause-records c =
    let piece = c.args.piece.now in
    subst AreEachRecords (sym c.in_ok-moved.ensures.moved) (given_each piece.prefix piece.given c.args.records.now c.in_ok-moved.ensures.valid)

pub join-done-requires-clause-distinct : goal.join-done-requires-clause-distinct
join-done-requires-clause-distinct c =
    let piece = c.args.piece.now in
    ap are_distinct c.in_ok-moved.ensures.moved ∙ given_distinct piece.prefix piece.given c.args.records.now

pub join-done-requires-clause-absent : goal.join-done-requires-clause-absent
join-done-requires-clause-absent c =
    let piece = c.args.piece.now in
    ap₂ are_absent c.in_ok-moved.ensures.left c.in_ok-moved.ensures.moved ∙ given_absent piece.prefix piece.given c.args.records.now
