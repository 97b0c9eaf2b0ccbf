use Rattle.std.proofs.Common.{sym}
use Rattle.fs_record.specs.Applied.{records_after}
use Rattle.fs_ident.specs.Maps.{map_of}
use Rattle.fs_record.proofs.Kept.{after_kept, either_kept}
use Rattle.fs_record.proofs.ValueChanges.{values_follow}
use Rattle.fs_record.proofs.records.Records.apply.Goals as goal

pub invariant_of-self : goal.invariant_of-self
invariant_of-self c =
    let old = map_of c.self.inside.records in
    (either_kept c.apply.result old (map_of c.apply.new.records) (records_after old c.args.e.now) c.apply.ensures.ok c.apply.ensures.err c.self.invariant.0 (after_kept old c.args.e.now c.self.invariant.0), c.apply.ensures.marks)

pub returns-clause-values : goal.returns-clause-values
returns-clause-values c = values_follow c.apply.result c.args.self.now (map_of c.self.inside.records) (map_of c.apply.new.records) c.args.e.now (sym c.self.view_is) c.self.invariant.0 c.apply.ensures.ok
