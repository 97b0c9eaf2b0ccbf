use Rattle.std.proofs.Common.{◌∙◌, ap, sym, subst}
use Rattle.fs_ident.specs.Maps.{map_of}
use Rattle.fs_record.specs.Moving.{records_left}
use Rattle.fs_record.specs.Records.{AreRecords}
use Rattle.std.specs.Map.{keys_of}
use Rattle.fs_record.proofs.Marked.{left_marks}
use Rattle.fs_record.proofs.Coming.{left_kept}
use Rattle.fs_record.proofs.TakenOut.{left_these}
use Rattle.fs_record.proofs.records.Records.leave_these.Goals as goal

pub returns : goal.returns
returns c = left_these c.args.piece.now.prefix c.args.piece.now.given c.args.moved.now (map_of c.self.inside.records) c.args.self.now c.as_slice.result.now (map_of c.leave_these.new.records) c.self.view_is c.as_slice.ensures c.requires c.leave_these.ensures

pub invariant_of-self : goal.invariant_of-self
invariant_of-self c =
    let piece = c.args.piece.now in
    let old = map_of c.self.inside.records in
    (subst AreRecords (sym (returns c ∙ ap (records_left piece.prefix piece.given) (sym c.self.view_is))) (left_kept piece.prefix piece.given old c.self.invariant.0), c.settle_these.ensures)

pub settle_these-requires : goal.settle_these-requires
settle_these-requires c = left_marks (keys_of c.as_slice-2.result.now) (keys_of c.as_slice.result.now) (map_of c.self.inside.marks) (map_of c.self.inside.records) (map_of c.leave_these.new.records) (ap keys_of (c.as_slice-2.ensures ∙ sym c.as_slice.ensures)) c.leave_these.ensures c.self.invariant.1
