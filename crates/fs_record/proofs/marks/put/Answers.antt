use Rattle.std.proofs.Common.{◌∙◌, ap}
use Rattle.std.specs.FinMap.{insert}
use Rattle.fs_ident.specs.Maps.{map_of}
use Rattle.fs_record.specs.Marks.{mark, settled}
use Rattle.fs_record.proofs.Marked.{put_marks, settled_one}
use Rattle.fs_record.proofs.marks.put.Goals as goal

pub returns-clause-marks : goal.returns-clause-marks
returns-clause-marks c =
    let old = map_of c.args.marks.now in
    let noted = map_of c.note.new.marks in
    let new = map_of c.add-done.new.records in
    settled_one c.args.file noted (map_of c.settle.new.marks) new (c.settle.ensures ∙ ap (settled new noted) c.in_ok-twin.ensures)
    (put_marks c.add-done.result c.args.file c.args.kept old noted (map_of c.args.records.now) new c.requires (c.in_ok-note.ensures.ok ∙ ap (λ f. insert old f mark) c.in_ok-twin.ensures) c.add-done.ensures.ok c.add-done.ensures.err)
