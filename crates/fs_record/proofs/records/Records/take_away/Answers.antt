use Rattle.std.proofs.Common.{sym, subst}
use Rattle.fs_ident.specs.Maps.{map_of}
use Rattle.fs_record.specs.Records.{AreRecords}
use Rattle.fs_record.proofs.Kept.{after_kept}
use Rattle.fs_record.proofs.records.Records.take_away.Goals as goal

pub invariant_of-self : goal.invariant_of-self
invariant_of-self c =
    let old = map_of c.self.inside.records in
    (subst AreRecords (sym c.take_away.ensures.records) (after_kept old c.args.e.now c.self.invariant.0), c.take_away.ensures.marks)
