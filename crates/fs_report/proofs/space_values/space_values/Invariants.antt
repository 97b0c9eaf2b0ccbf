use Rattle.std.proofs.Common.{◌≡◌, map, take}
use Rattle.std.specs.Prelude.{flat_map}
use Rattle.std.specs.FinMap.{get}
use Rattle.serde_json.specs.Data.{string}
use Rattle.serde_json.specs.View.{view}
use Rattle.fs_report.specs.Report.{file_lines}
use Rattle.fs_report.proofs.space_values.space_values.Given as goal

abbrev pub invariant-loop-id : goal.invariant-loop-id
invariant-loop-id l = map view l.values.items ≡ flat_map (λ id. map string (file_lines id (get l.s id))) (take l.id-index l.id-items)
