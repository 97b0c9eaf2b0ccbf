use Rattle.std.specs.FinMap.{insert}
use Rattle.fs_ident.specs.Maps.{map_of}
use Rattle.fs_record.proofs.Kept.{kept_insert, either_kept}
use Rattle.fs_record.proofs.records.Records.put.Goals as goal

pub invariant_of-self : goal.invariant_of-self
invariant_of-self c =
    let old = map_of c.self.inside.records in
    (either_kept c.put.result old (map_of c.put.new.records) (insert old c.args.id c.args.kept) c.put.ensures.ok c.put.ensures.err c.self.invariant.0 (kept_insert old c.args.id c.args.kept c.self.invariant.0 c.requires.kept), c.put.ensures.marks)
