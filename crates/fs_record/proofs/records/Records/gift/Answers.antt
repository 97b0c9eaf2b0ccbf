use Rattle.std.proofs.Common.{[], Some, ◌+◌, refl, sym, subst, arith}
use Rattle.std.specs.FinMap.{get}
use Rattle.fs_ident.specs.Maps.{map_of}
use Rattle.fs_record.specs.Records.{AreRecords}
use Rattle.fs_record.specs.Marks.{MarkOpen}
use Rattle.fs_record.proofs.Marked.{marked_gift}
use Rattle.fs_record.proofs.Kept.{next_kept}
use Rattle.fs_record.proofs.records.Records.gift.Goals as goal

pub invariant_of-self : goal.invariant_of-self
invariant_of-self c =
    let old = map_of c.self.inside.records in (
      subst AreRecords (sym c.gift.ensures) (next_kept old c.args.dir.now (c.args.k + 1) (get old c.args.dir.now) refl c.self.invariant.0 (omega arith) (omega arith)),
      subst (MarkOpen [] (map_of c.self.inside.marks)) (sym c.gift.ensures) (marked_gift (map_of c.self.inside.marks) old c.args.dir.now (Some c.args.k) c.self.invariant.1),
    )
