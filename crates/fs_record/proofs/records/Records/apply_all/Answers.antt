use Rattle.fs_record.specs.Applied.{records_after_all}
use Rattle.fs_ident.specs.Maps.{map_of}
use Rattle.fs_record.proofs.Kept.{either_kept}
use Rattle.fs_record.proofs.AllApplied.{after_all_kept}
use Rattle.fs_record.proofs.records.Records.apply_all.Goals as goal

pub invariant_of-self : goal.invariant_of-self
invariant_of-self c =
    let old = map_of c.self.inside.records in
    let es = c.as_slice.result.now in
    (either_kept c.apply_all.result old (map_of c.apply_all.new.records) (records_after_all old es) c.apply_all.ensures.ok c.apply_all.ensures.err c.self.invariant.0 (after_all_kept old es c.self.invariant.0), c.apply_all.ensures.marks)
