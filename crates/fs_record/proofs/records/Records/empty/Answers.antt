use Rattle.std.proofs.Common.{sym, subst}
use Rattle.fs_record.specs.Records.{AreRecords}
use Rattle.fs_ident.specs.Maps.{map_of}
use Rattle.fs_ident.proofs.MapsOf.{map_of_empty}
use Rattle.fs_record.proofs.Kept.{kept_empty}
use Rattle.fs_record.proofs.Marked.{marked_none}
use Rattle.fs_record.proofs.records.Records.empty.Goals as goal

pub invariant_of-result : goal.invariant_of-result
invariant_of-result c = (
  subst AreRecords (sym (map_of_empty c.new.result c.new.ensures.empty)) kept_empty,
  marked_none (map_of c.new-2.result) (map_of c.new.result) (map_of_empty c.new-2.result c.new-2.ensures.empty) (map_of_empty c.new.result c.new.ensures.empty),
)

pub returns : goal.returns
returns c = map_of_empty c.new.result c.new.ensures.empty
