use Rattle.std.proofs.Common.{[], ◌∙◌, ap, sym, subst}
use Rattle.std.specs.Map.{keys_of}
use Rattle.fs_ident.specs.Maps.{map_of}
use Rattle.fs_record.specs.Marks.{MarkOpen}
use Rattle.fs_record.specs.Moving.{records_given}
use Rattle.fs_record.proofs.Marked.{left_marks}
use Rattle.fs_record.proofs.TakenOut.{left_given}
use Rattle.fs_record.proofs.marks.split.Goals as goal

pub settle_these-requires : goal.settle_these-requires
settle_these-requires c =
    let m = map_of c.args.records.now in
    let piece = c.args.piece.now in
    left_marks (keys_of c.as_slice.result.now) (keys_of (records_given piece.prefix piece.given m)) (map_of c.args.marks.now) m (map_of c.split.new.records) (ap keys_of (c.as_slice.ensures ∙ c.in_ok-moved.ensures.moved)) (c.in_ok-moved.ensures.left ∙ sym (left_given piece.prefix piece.given m)) c.requires

pub returns-in_err-moved-clause-marks : goal.returns-in_err-moved-clause-marks
returns-in_err-moved-clause-marks c = subst (MarkOpen [] (map_of c.args.marks.now)) (sym c.in_err-moved.ensures.err) c.requires
