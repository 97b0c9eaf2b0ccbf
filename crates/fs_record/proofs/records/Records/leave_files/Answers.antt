use Rattle.std.proofs.Common.{◌∙◌, sym, subst}
use Rattle.fs_ident.specs.Maps.{map_of}
use Rattle.fs_record.specs.Records.{AreRecords}
use Rattle.fs_record.proofs.Marked.{left_marks}
use Rattle.fs_record.proofs.TakenOut.{without_kept}
use Rattle.fs_record.proofs.records.Records.leave_files.Goals as goal

pub invariant_of-self : goal.invariant_of-self
invariant_of-self c = (subst AreRecords (sym c.leave_files.ensures) (without_kept c.as_slice.result.now (map_of c.self.inside.records) c.self.invariant.0), c.settle_all.ensures)

pub settle_all-requires : goal.settle_all-requires
settle_all-requires c = left_marks c.as_slice-2.result.now c.as_slice.result.now (map_of c.self.inside.marks) (map_of c.self.inside.records) (map_of c.leave_files.new.records) (c.as_slice-2.ensures ∙ sym c.as_slice.ensures) c.leave_files.ensures c.self.invariant.1
