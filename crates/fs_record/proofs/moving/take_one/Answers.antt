use Rattle.std.proofs.Common.{◌∙◌, ◌++◌, ap, sym}
use Rattle.fs_ident.specs.Ordered.{Keyed}
use Rattle.fs_ident.proofs.MapsOf.{map_of_remove}
use Rattle.fs_record.specs.declared.record.Record.{Record}
use Rattle.fs_record.proofs.TakenOut.{taken_none, taken_one}
use Rattle.fs_record.proofs.moving.take_one.Goals as goal

pub returns-in-Ok-clause-moved : goal.returns-in-Ok-clause-moved
returns-in-Ok-clause-moved c =
    c.in-Ok.ensures.items
    ∙ ap (λ (one : Keyed Record). c.args.moved.now.items ++ one) (taken_one c.args.records.now c.args.file.now c.in-Some.entry c.in-Some.ensures.same_key (sym c.in-Some.ensures.value))

pub returns-in-Ok-clause-left : goal.returns-in-Ok-clause-left
returns-in-Ok-clause-left c = map_of_remove _ _ _ c.in-Some.ensures.updates

pub returns-in-None-clause-moved : goal.returns-in-None-clause-moved
returns-in-None-clause-moved c = taken_none c.args.moved.now.items c.args.records.now c.args.file.now (sym c.in-None.ensures.value)

pub returns-in-None-clause-left : goal.returns-in-None-clause-left
returns-in-None-clause-left c = map_of_remove _ _ _ c.in-None.ensures.updates
