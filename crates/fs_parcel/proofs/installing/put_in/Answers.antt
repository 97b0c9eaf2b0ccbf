use Rattle.std.proofs.Common.{ap₂, ◌∙◌}
use Rattle.fs_record.specs.Moving.{records_without}
use Rattle.fs_record.proofs.TakenOut.{gone_again}
use Rattle.fs_parcel.proofs.installing.put_in.Goals as goal

pub returns-clause-err_records : goal.returns-clause-err_records
returns-clause-err_records c =
    c.leave_files.ensures
    ∙ ap₂ records_without c.in_ok-came.ensures.files c.in_ok-came.ensures.ok
    ∙ gone_again c.args.p.records c.args.records.now c.requires.absent
