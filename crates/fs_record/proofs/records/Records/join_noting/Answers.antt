use Rattle.std.proofs.Common.{subst, sym}
use Rattle.fs_ident.specs.Maps.{map_of}
use Rattle.fs_record.specs.Moving.{with_records, AreEachRecords}
use Rattle.fs_record.proofs.Kept.{either_kept}
use Rattle.fs_record.proofs.Coming.{with_kept}
use Rattle.fs_record.proofs.records.Records.join_noting.Goals as goal

pub invariant_of-self : goal.invariant_of-self
invariant_of-self c =
    let old = map_of c.self.inside.records in
    let came = c.into_vec.result.items in
    (either_kept c.join.result old (map_of c.join.new.records) (with_records came old) c.join.ensures.ok c.join.ensures.err c.self.invariant.0 (with_kept old came c.self.invariant.0 (subst AreEachRecords (sym c.into_vec.ensures) c.requires.records)), c.join.ensures.marks)
