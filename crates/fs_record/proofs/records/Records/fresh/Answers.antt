use Rattle.fs_record.specs.Fresh.{fresh_number, records_after_gift}
use Rattle.fs_ident.specs.Maps.{map_of}
use Rattle.fs_record.proofs.Kept.{given_kept, either_kept}
use Rattle.fs_record.proofs.Marked.{gift_marks}
use Rattle.fs_record.proofs.records.Records.fresh.Goals as goal

pub invariant_of-self : goal.invariant_of-self
invariant_of-self c =
    let old = map_of c.self.inside.records in
    let dir = c.args.dir.now in
    let borne = c.as_slice.result.now in (
      either_kept c.fresh.result old (map_of c.fresh.new.records) (records_after_gift old dir (fresh_number old dir borne)) c.fresh.ensures.records c.fresh.ensures.err c.self.invariant.0 (given_kept old dir borne c.self.invariant.0),
      gift_marks c.fresh.result (map_of c.self.inside.marks) old (map_of c.fresh.new.records) dir (fresh_number old dir borne) c.fresh.ensures.records c.fresh.ensures.err c.self.invariant.1,
    )
