use Rattle.std.proofs.Common.{◌∙◌, sym}
use Rattle.fs_record.proofs.Returning.{all_distinct}
use Rattle.fs_parcel.proofs.fitting.are_distinct.Goals as goal

pub returns-then-files_rise : goal.returns-then-files_rise
returns-then-files_rise c = c.if-files_rise.true ∙ sym (all_distinct c.args.records.now (sym c.files_rise.ensures ∙ c.if-files_rise.true))
