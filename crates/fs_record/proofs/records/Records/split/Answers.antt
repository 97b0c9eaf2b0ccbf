use Rattle.fs_ident.specs.Maps.{map_of}
use Rattle.fs_record.specs.Moving.{records_left}
use Rattle.fs_record.proofs.Kept.{either_kept}
use Rattle.fs_record.proofs.Coming.{left_kept}
use Rattle.fs_record.proofs.records.Records.split.Goals as goal

pub invariant_of-self : goal.invariant_of-self
invariant_of-self c =
    let old = map_of c.self.inside.records in
    let piece = c.args.piece.now in
    (either_kept c.split.result old (map_of c.split.new.records) (records_left piece.prefix piece.given old) c.split.ensures.left c.split.ensures.err c.self.invariant.0 (left_kept piece.prefix piece.given old c.self.invariant.0), c.split.ensures.marks)
