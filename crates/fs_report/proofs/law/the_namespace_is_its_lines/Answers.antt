use Rattle.std.proofs.Common.{sym}
use Rattle.std.specs.FinMap.{get, keys}
use Rattle.fs_report.specs.Report.{ended, file_lines}
use Rattle.fs_report.proofs.Lines.{flat_in}
use Rattle.fs_report.proofs.law.the_namespace_is_its_lines.Goals as goal

pub returns : goal.returns
returns c = λ m. sym (flat_in ended (λ id. file_lines id (get m id)) (keys m))
